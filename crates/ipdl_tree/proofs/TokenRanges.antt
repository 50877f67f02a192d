-- A number that is open fits 32 bits so far, and a literal has at most 128 bits.
use Rattle.std.proofs.Common.{◌≡◌, ℕ, ◌+◌, ◌-◌, ◌*◌, ◌<◌, ◌≤◌, ◌^◌, Bool, true, false, ◌||◌, ◌&&◌, not, if◌then◌else◌, eqb, ltb, List, [], ◌∷◌, length, Option, Some, None, refl, arith}
use Rattle.std.specs.Prelude.{◌==◌}
use Rattle.std.proofs.lemmas.Bool.Decides.{nat_tests}
use Rattle.std.proofs.lemmas.List.{length-append}
use Rattle.ipdl_base.specs.Names.{continues_name}
use Rattle.ipdl_tree.specs.declared.character.Beginning.{Beginning}
use Rattle.ipdl_tree.specs.declared.character.Beginning.TheVariants.{Blank, Comment, Opening, Closing, Number, Literal, Word, Nothing}
use Rattle.ipdl_tree.specs.Trees.{Located, word, number, literal, group}
use Rattle.ipdl_tree.specs.Causes.{Cause, bad_byte}
use Rattle.ipdl_tree.specs.Characters.{is_digit, beginning_of}
use Rattle.ipdl_tree.specs.Reading.{refusal_within, Token, no_token, comment, open_name, open_number, open_literal, Group, Reading, add_to, close, ended, after_beginning, after, refusal_of}
use Rattle.ipdl_tree.specs.Views.{forest}
use Rattle.ipdl_tree.proofs.Beginnings.{Means, beginning-means}
use Rattle.ipdl_tree.proofs.Characters.{is_digit-range}

abbrev pub IsInRange : Token → Type 0
IsInRange (open_number start value) = value < 2 ^ 32
IsInRange (open_literal start bits) = length bits ≤ 128
IsInRange _ = Unit {0}

-- a digit that is not refused
pub number_goes_on : (start value c : ℕ) → refusal_within (open_number start value) c ≡ None → (0 < value) × (10 * value + (c - 48) < 2 ^ 32)
number_goes_on start value c none = go (eqb value 0) (ltb (10 * value + (c - 48)) (2 ^ 32)) refl refl none
  where
    go : (zero fits : Bool) → eqb value 0 ≡ zero → ltb (10 * value + (c - 48)) (2 ^ 32) ≡ fits → (if not zero && fits then None else Some bad_byte) ≡ None → (0 < value) × (10 * value + (c - 48) < 2 ^ 32)
    go true fits z f e = (cc, cc)
    go false true z f e = (grind (arith, nat_tests), grind (arith, nat_tests))
    go false false z f e = (cc, cc)

-- a bit that is not refused
pub literal_goes_on : (start : ℕ) (bits : List Bool) (c : ℕ) → refusal_within (open_literal start bits) c ≡ None → length bits < 128
literal_goes_on start bits c none = go (ltb (length bits) 128) refl none
  where
    go : (fits : Bool) → ltb (length bits) 128 ≡ fits → (if fits then None else Some bad_byte) ≡ None → length bits < 128
    go true f e = grind (arith, nat_tests)
    go false f e = cc

IsInRange-add_to : (t : Located) (gs : List Group) (k : Option Located) → IsInRange (add_to t gs k).token
IsInRange-add_to t [] k = tt
IsInRange-add_to t (g ∷ gs) k = tt

IsInRange-close : (gs : List Group) (k : Option Located) → IsInRange (close gs k).token
IsInRange-close [] k = tt
IsInRange-close (g ∷ gs) k = IsInRange-add_to (group g.start (forest g.parts)) gs k

IsInRange-beginning : (r : Reading) (n c : ℕ) (b : Beginning) → Means b c → IsInRange r.token → IsInRange (after_beginning r n c b).token
IsInRange-beginning r n c Blank m h = tt
IsInRange-beginning r n c Comment m h = tt
IsInRange-beginning r n c Opening m h = tt
IsInRange-beginning r n c Closing m h = IsInRange-close r.groups r.complete
IsInRange-beginning r n c Number m h = omega (arith, (is_digit-range c m).1)
IsInRange-beginning r n c Literal m h = omega arith
IsInRange-beginning r n c Word m h = tt
IsInRange-beginning r n c Nothing m h = h

IsInRange-begun : (r : Reading) (n c : ℕ) → IsInRange r.token → IsInRange (after_beginning r n c (beginning_of c)).token
IsInRange-begun r n c h = IsInRange-beginning r n c (beginning_of c) (beginning-means c) h

choice : (b : Bool) (within other : Option Cause) (r q : Reading) → (if b then within else other) ≡ None → (within ≡ None → IsInRange r.token) → IsInRange q.token → IsInRange (if b then r else q).token
choice true within other r q e h k = h e
choice false within other r q e h k = k

abbrev nothing : Option Cause
nothing = None

by_token : (token : Token) (gs : List Group) (k : Option Located) (n c : ℕ) → refusal_of (record { token = token; groups = gs; complete = k }) c ≡ None → IsInRange token → IsInRange (after (record { token = token; groups = gs; complete = k }) n c).token
by_token no_token gs k n c none h = IsInRange-begun (record { token = no_token; groups = gs; complete = k }) n c h
by_token comment gs k n c none h = choice (eqb c 10) nothing nothing (record { token = no_token; groups = gs; complete = k }) (record { token = comment; groups = gs; complete = k }) (both (eqb c 10)) (λ _. tt) tt
  where
    both : (b : Bool) → (if b then nothing else nothing) ≡ nothing
    both true = refl
    both false = refl
by_token (open_name start text) gs k n c none h =
    let r : Reading = record { token = open_name start text; groups = gs; complete = k } in
    choice (continues_name c) _ _ _ (after_beginning (ended r) n c (beginning_of c)) none (λ _. tt) (IsInRange-begun (ended r) n c (IsInRange-add_to (word start text) gs k))
by_token (open_number start value) gs k n c none h =
    let r : Reading = record { token = open_number start value; groups = gs; complete = k } in
    choice (is_digit c) (refusal_within (open_number start value) c) _ _ (after_beginning (ended r) n c (beginning_of c)) none (λ e. (number_goes_on start value c e).1) (IsInRange-begun (ended r) n c (IsInRange-add_to (number start value) gs k))
by_token (open_literal start bits) gs k n c none h =
    let r : Reading = record { token = open_literal start bits; groups = gs; complete = k } in
    choice (eqb c 48 || eqb c 49) (refusal_within (open_literal start bits) c) _ _ (after_beginning (ended r) n c (beginning_of c)) none
    (λ e. omega (arith, literal_goes_on start bits c e, length-append bits ((c == 49) ∷ []))) (IsInRange-begun (ended r) n c (IsInRange-add_to (literal start bits) gs k))

-- after any character that is not refused
pub IsInRange-after : (r : Reading) (n c : ℕ) → refusal_of r c ≡ None → IsInRange r.token → IsInRange (after r n c).token
IsInRange-after r n c none h = by_token r.token r.groups r.complete n c none h
