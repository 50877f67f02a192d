-- The rules that rewrite a protocol: what is the right side of which left side. One case a rule, in the words of the table
-- of rules, with what the rule asks of its left side in front. Variables are counted by binders, so in a part that comes to
-- stand under another binder they are lifted, and in one that loses a binder lowered.
use Rattle.std.specs.Prelude.{◌≡◌, ◌≢◌, ℕ, true, false, List, []}
use Rattle.ipdl_rules_p.specs.ReadPlaces.{IsReadAt, IsReadOnlyAt}
use Rattle.ipdl_term.specs.Channels.{has, IsWithin, reads, must_reads, outputs, free_channels}
use Rattle.ipdl_term.specs.Places.{reaction_or, term_with}
use Rattle.ipdl_term.specs.Renaming.{occurs, renaming_one, renamed}
use Rattle.ipdl_term.specs.Rewriting.{lowered_reaction}
use Rattle.ipdl_term.specs.Rules.{Rule}
use Rattle.ipdl_term.specs.Rules as R
use Rattle.ipdl_term.specs.Terms.{Channel, Reaction, reading, binding, Protocol, nil, assignment, parallel, hiding, reaction_term}
use Rattle.ipdl_term.specs.Variables.{reaction_uses, has_flip, lifted_reaction}

-- the reaction with another one at the place
abbrev pub reaction_with : Reaction → (place : List ℕ) → Reaction → Reaction
reaction_with k place r = reaction_or k (term_with (reaction_term k) place (reaction_term r))

-- ---- rules with many conditions

-- `(new ((c w)) (par (out o K) (out d R)))`, where d is c, and c is read in K at this place alone, and not in R: c goes
pub record IsFoldInstance (place : List ℕ) (c o : Channel) (k : Reaction) (d : Channel) (r : Reaction) (right : Protocol) : Type 0 where
  pub hidden : d ≡ c
  pub shown : o ≢ c
  pub read_here : IsReadAt c k place
  pub read_once : IsReadOnlyAt c k place
  pub unread : has (reads r) c ≡ false
  pub becomes : right ≡ assignment o (reaction_with k place r)

-- `(par (out a R) (out b K))`, where K reads a at the place, and R has no `flip`: R stands there too
pub record IsSubstInstance (place : List ℕ) (a : Channel) (r : Reaction) (b : Channel) (k : Reaction) (right : Protocol) : Type 0 where
  pub two : a ≢ b
  pub read_here : IsReadAt a k place
  pub no_flip : has_flip r ≡ false
  pub becomes : right ≡ parallel (assignment a r) (assignment b (reaction_with k place r))

-- `(par (out a R) (out b (bind x W (read e) S)))`, where e is a, x is not used in S, and S reads on every way all that R
-- reads: the `read` goes
pub record IsDropInstance (a : Channel) (r : Reaction) (b e : Channel) (s : Reaction) (right : Protocol) : Type 0 where
  pub same : e ≡ a
  pub two : a ≢ b
  pub unused : reaction_uses s 0 ≡ false
  pub read_anyway : IsWithin (reads r) (must_reads s)
  pub becomes : right ≡ parallel (assignment a r) (assignment b (lowered_reaction s))

-- `(par (out a R) (out b S))`, where S reads a on every way, and R reads c on every way: S reads c besides
pub record IsSubsumeInstance (c : Channel) (w : ℕ) (a : Channel) (r : Reaction) (b : Channel) (s : Reaction) (right : Protocol) : Type 0 where
  pub two : a ≢ b
  pub reads_first : has (must_reads s) a ≡ true
  pub first_reads : has (must_reads r) c ≡ true
  pub becomes : right ≡ parallel (assignment a r) (assignment b (binding w (reading c) (lifted_reaction s 0 1)))

-- ---- all rules

-- the second protocol is what the rule makes of the first
abbrev pub IsProtocolInstance : Rule → Protocol → Protocol → Type 0
IsProtocolInstance R.comm (parallel p q) right = right ≡ parallel q p
IsProtocolInstance R.assocl (parallel p (parallel q r)) right = right ≡ parallel (parallel p q) r
IsProtocolInstance R.assocr (parallel (parallel p q) r) right = right ≡ parallel p (parallel q r)
IsProtocolInstance R.unit (parallel p nil) right = right ≡ p
IsProtocolInstance R.newswap (hiding c v (hiding d w p)) right = (c ≢ d) × (right ≡ hiding d w (hiding c v p))
IsProtocolInstance R.scope (parallel p (hiding c w q)) right =
    (has (free_channels p) c ≡ false) × (right ≡ hiding c w (parallel p q))
IsProtocolInstance (R.rename d) (hiding c w p) right =
    (occurs d p ≡ false) × (right ≡ hiding d w (renamed (renaming_one c d) p))
IsProtocolInstance R.absorb (parallel p q) right = (outputs q ≡ []) × (right ≡ p)
IsProtocolInstance (R.fold place) (hiding c w (parallel (assignment o k) (assignment d r))) right =
    IsFoldInstance place c o k d r right
IsProtocolInstance (R.subst place) (parallel (assignment a r) (assignment b k)) right = IsSubstInstance place a r b k right
IsProtocolInstance R.drop (parallel (assignment a r) (assignment b (binding w (reading e) s))) right =
    IsDropInstance a r b e s right
IsProtocolInstance (R.subsume c w) (parallel (assignment a r) (assignment b s)) right = IsSubsumeInstance c w a r b s right
IsProtocolInstance R.diverge (assignment a r) right = (has (must_reads r) a ≡ true) × (right ≡ assignment a (reading a))
IsProtocolInstance _ _ _ = ⊥

-- The rules of which the right side is typed wherever the left one is: all but `subsume`, whose width need not be that of the
-- channel.
abbrev pub KeepsTypes : Rule → Type 0
KeepsTypes (R.subsume c w) = ⊥
KeepsTypes _ = Unit {0}
