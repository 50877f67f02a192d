-- What the call for the shape gathers, and what it makes of that from the last on.
use Rattle.std.proofs.Common.{◌≡◌, ℕ, ◌+◌, ◌<◌, Bool, true, false, ◌||◌, List, [], ◌∷◌, ◌++◌, length, drop, get_or, Option, Some, None, Bor, refl, sym, ap, ap₂, ◌∙◌}
use Rattle.std.proofs.lemmas.List.{map-append, drop_more}
use Rattle.std.specs.Prelude.{if◌then◌else◌, option_map}
use Rattle.std.specs.Option.{unwrap_or}
use Rattle.ipdl_laws.proofs.Sets.{if-true, if-false}
use Rattle.ipdl_norm.specs.Gathered.{lent_channel, hidden_of, lent_assignment, assignments_of, beside, in_front}
use Rattle.ipdl_norm.specs.Repeated.{first_repeated, first_repeated_name}
use Rattle.ipdl_norm.specs.Shaped.{hidden, names_of, side_by_side, all_hidden}
use Rattle.ipdl_term.specs.Channels.{same_channel, has, SameSet, free_channels}
use Rattle.ipdl_term.specs.Renaming.{hidden_channels}
use Rattle.ipdl_term.specs.Views.{protocol_of}
use Rattle.ipdl_term.specs.declared.protocol.Proto.{Proto}
use Rattle.ipdl_term.specs.declared.protocol.Proto.TheVariants.{Nil}
use Rattle.ipdl_term.specs.declared.reaction.React.{React}
use Rattle.ipdl_term.specs.Terms.{Channel, Reaction, Protocol, nil, assignment, parallel, hiding}

-- ---- from the last on

pub in_front-last : (xs : List (Channel × Reaction)) (x : Channel × Reaction) (rest : Option Protocol) → in_front (xs ++ x ∷ []) rest ≡ in_front xs (Some (beside x rest))
in_front-last [] x rest = refl
in_front-last (y ∷ xs) x rest = ap (λ o. Some (beside y o)) (in_front-last xs x rest)

pub all_hidden-last : (hs : List (Channel × ℕ)) (h : Channel × ℕ) (p : Protocol) → all_hidden (hs ++ h ∷ []) p ≡ all_hidden hs (hiding h.0 h.1 p)
all_hidden-last [] h p = refl
all_hidden-last (g ∷ hs) h p = ap (hiding g.0 g.1) (all_hidden-last hs h p)

-- the last of the assignments goes in front of what is made
pub front_step : (all left : List (Bor Channel × Bor React)) (x : Bor Channel × Bor React) (rest : Option Protocol) (new : Protocol) → all ≡ left ++ x ∷ [] → new ≡ beside (lent_assignment x) rest →
    in_front (assignments_of left) (Some new) ≡ in_front (assignments_of all) rest
front_step all left x rest new is made =
    ap (λ p. in_front (assignments_of left) (Some p)) made ∙ sym (in_front-last (assignments_of left) (lent_assignment x) rest) ∙
    sym (ap (λ zs. in_front zs rest) (ap assignments_of is ∙ map-append lent_assignment left (x ∷ [])))

-- the last of the channels is hidden around what is made
pub hiding_step : (all left : List (Bor Channel × ℕ)) (h : Bor Channel × ℕ) (p new : Protocol) → all ≡ left ++ h ∷ [] → new ≡ hiding h.0.now h.1 p →
    all_hidden (hidden_of left) new ≡ all_hidden (hidden_of all) p
hiding_step all left h p new is made =
    ap (all_hidden (hidden_of left)) made ∙ sym (all_hidden-last (hidden_of left) (lent_channel h) p) ∙
    sym (ap (λ zs. all_hidden zs p) (ap hidden_of is ∙ map-append lent_channel left (h ∷ [])))

-- the protocol, or the empty one
abbrev pub or_nil : Option Protocol → Protocol
or_nil None = nil
or_nil (Some p) = p

pub in_front-all : (xs : List (Channel × Reaction)) → or_nil (in_front xs None) ≡ side_by_side xs
in_front-all [] = refl
in_front-all (x ∷ []) = refl
in_front-all (x ∷ y ∷ xs) = ap (parallel (assignment x.0 x.1)) (in_front-all (y ∷ xs))

or_nil-made : (made : Option Proto) → protocol_of (unwrap_or made Nil) ≡ or_nil (option_map protocol_of made)
or_nil-made None = refl
or_nil-made (Some p) = refl

-- where none is left, what is made is all of them
pub front_end : (all left : List (Bor Channel × Bor React)) (made : Option Proto) → left ≡ [] → in_front (assignments_of left) (option_map protocol_of made) ≡ in_front (assignments_of all) None →
    protocol_of (unwrap_or made Nil) ≡ side_by_side (assignments_of all)
front_end all left made none is =
    or_nil-made made ∙ ap or_nil (sym (ap (λ zs. in_front (assignments_of zs) (option_map protocol_of made)) none) ∙ is) ∙ in_front-all (assignments_of all)

-- ---- names that repeat

pub names_of-hidden : (p : Protocol) → names_of (hidden p) ≡ hidden_channels p
names_of-hidden nil = refl
names_of-hidden (assignment c r) = refl
names_of-hidden (parallel p q) = map-append (λ x. x.0) (hidden p) (hidden q) ∙ ap₂ ◌++◌ (names_of-hidden p) (names_of-hidden q)
names_of-hidden (hiding c w p) = ap (λ cs. c ∷ cs) (names_of-hidden p)

pub first_repeated-same : (seen seen' cs : List Channel) → SameSet seen seen' → first_repeated seen cs ≡ first_repeated seen' cs
first_repeated-same seen seen' [] same = refl
first_repeated-same seen seen' (c ∷ cs) same =
    ap₂ (λ (b : Bool) (o : Option Channel). if b then Some c else o) (same c) (first_repeated-same (c ∷ seen) (c ∷ seen') cs (λ d. ap (λ b. same_channel c d || b) (same d)))

-- one channel further, which is new
pub first_repeated-next : (seen new : List Channel) (items : List (Bor Channel × ℕ)) (i : ℕ) (x : Bor Channel × ℕ) (first : Option Channel) → i < length items → get_or items i x ≡ x →
    has seen x.0.now ≡ false → SameSet new (x.0.now ∷ seen) → first_repeated seen (names_of (hidden_of (drop i items))) ≡ first →
    first_repeated new (names_of (hidden_of (drop (i + 1) items))) ≡ first
first_repeated-next seen new items i x first within at out same is =
    let rest = names_of (hidden_of (drop (i + 1) items)) in
    first_repeated-same new (x.0.now ∷ seen) rest same ∙
    sym (if-false (has seen x.0.now) (Some x.0.now) (first_repeated (x.0.now ∷ seen) rest) out) ∙
    sym (ap (λ zs. first_repeated seen (names_of (hidden_of zs))) (drop_more items i x within ∙ ap (λ z. z ∷ drop (i + 1) items) at)) ∙ is

-- or which repeats
pub first_repeated-here : (seen : List Channel) (items : List (Bor Channel × ℕ)) (i : ℕ) (x : Bor Channel × ℕ) (first : Option Channel) → i < length items → get_or items i x ≡ x →
    has seen x.0.now ≡ true → first_repeated seen (names_of (hidden_of (drop i items))) ≡ first → first ≡ Some x.0.now
first_repeated-here seen items i x first within at out is =
    sym is ∙ ap (λ zs. first_repeated seen (names_of (hidden_of zs))) (drop_more items i x within ∙ ap (λ z. z ∷ drop (i + 1) items) at) ∙ if-true (has seen x.0.now) _ _ out

-- the first that repeats among what was gathered is that of the protocol
pub first_repeated-gathered : (p : Protocol) (seen : List Channel) (items : List (Bor Channel × ℕ)) → SameSet seen (free_channels p) → hidden_of items ≡ hidden p → first_repeated seen (names_of (hidden_of items)) ≡ first_repeated_name p
first_repeated-gathered p seen items same is =
    first_repeated-same seen (free_channels p) (names_of (hidden_of items)) same ∙ ap (first_repeated (free_channels p)) (ap names_of is ∙ names_of-hidden p)
