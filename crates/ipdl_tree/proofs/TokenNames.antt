-- A name that is open is one so far.
use Rattle.std.proofs.Common.{◌≡◌, ℕ, zero, suc, ◌+◌, ◌<◌, ◌≤◌, Bool, true, false, leb, if◌then◌else◌, eqb, List, [], ◌∷◌, ◌++◌, length, get_or, Option, Some, None, refl, arith}
use Rattle.std.specs.Char.{len_utf8, IsScalar, encode_utf8}
use Rattle.std.specs.Str.{all_scalars}
use Rattle.std.proofs.lemmas.Bool.{and_parts}
use Rattle.std.proofs.lemmas.Bool.Decides.{nat_tests}
use Rattle.ipdl_base.specs.Names.{starts_name, continues_name}
use Rattle.ipdl_tree.specs.declared.character.Beginning.{Beginning}
use Rattle.ipdl_tree.specs.declared.character.Beginning.TheVariants.{Blank, Comment, Opening, Closing, Number, Literal, Word, Nothing}
use Rattle.ipdl_tree.specs.Trees.{Located, word, number, literal, group}
use Rattle.ipdl_tree.specs.Causes.{Cause, bad_name}
use Rattle.ipdl_tree.specs.Characters.{is_digit, beginning_of}
use Rattle.ipdl_tree.specs.Reading.{continues, Token, no_token, comment, open_name, open_number, open_literal, Group, Reading, IsNameToken, add_to, close, ended, after_beginning, after, refusal_of}
use Rattle.ipdl_tree.specs.Views.{forest}
use Rattle.ipdl_tree.proofs.Beginnings.{starts_name-Word}
use Rattle.ipdl_tree.proofs.Names.{is_name-first, is_name-more}

-- each character of a text is one
pub IsScalar-get_or : (cs : List ℕ) (n d : ℕ) → all_scalars cs ≡ true → n < length cs → IsScalar (get_or cs n d)
IsScalar-get_or [] n d all below = absurd (omega arith)
IsScalar-get_or (c ∷ cs) zero d all below = (and_parts _ _ all).0
IsScalar-get_or (c ∷ cs) (suc n) d all below = IsScalar-get_or cs n d (and_parts _ _ all).1 (omega arith)

IsNameToken-add_to : (t : Located) (gs : List Group) (k : Option Located) → IsNameToken (add_to t gs k).token
IsNameToken-add_to t [] k = tt
IsNameToken-add_to t (g ∷ gs) k = tt

IsNameToken-close : (gs : List Group) (k : Option Located) → IsNameToken (close gs k).token
IsNameToken-close [] k = tt
IsNameToken-close (g ∷ gs) k = IsNameToken-add_to (group g.start (forest g.parts)) gs k

-- after a character where no token is open
IsNameToken-beginning : (r : Reading) (n c : ℕ) (b : Beginning) → IsScalar c → (b ≡ Word → starts_name c ≡ true) → IsNameToken r.token → IsNameToken (after_beginning r n c b).token
IsNameToken-beginning r n c Blank s w h = tt
IsNameToken-beginning r n c Comment s w h = tt
IsNameToken-beginning r n c Opening s w h = tt
IsNameToken-beginning r n c Closing s w h = IsNameToken-close r.groups r.complete
IsNameToken-beginning r n c Number s w h = tt
IsNameToken-beginning r n c Literal s w h = tt
IsNameToken-beginning r n c Word s w h = is_name-first c s (w refl)
IsNameToken-beginning r n c Nothing s w h = h

IsNameToken-begun : (r : Reading) (n c : ℕ) → IsScalar c → IsNameToken r.token → IsNameToken (after_beginning r n c (beginning_of c)).token
IsNameToken-begun r n c s h = IsNameToken-beginning r n c (beginning_of c) s (starts_name-Word c) h

IsNameToken-choice : (b : Bool) (r q : Reading) → IsNameToken r.token → IsNameToken q.token → IsNameToken (if b then r else q).token
IsNameToken-choice true r q h k = h
IsNameToken-choice false r q h k = k

-- a longer name
longer : (b : Bool) (c bytes : ℕ) (next : Option Cause) → b ≡ true → (if b then (if leb (bytes + len_utf8 c) 64 then None else Some bad_name) else next) ≡ None → bytes + len_utf8 c ≤ 64
longer true c bytes next e h = within (leb (bytes + len_utf8 c) 64) refl h
  where
    within : (w : Bool) → leb (bytes + len_utf8 c) 64 ≡ w → (if w then None else Some bad_name) ≡ None → bytes + len_utf8 c ≤ 64
    within true e h = grind (arith, nat_tests)
    within false e h = cc
longer false c bytes next e h = cc

name_extended : (b : Bool) (start : ℕ) (text : List ℕ) (gs : List Group) (k : Option Located) (c : ℕ) (q : Reading) → IsScalar c → continues_name c ≡ b → (b ≡ true → length text + len_utf8 c ≤ 64) → IsNameToken (open_name start text) → IsNameToken q.token → IsNameToken (if b then record { token = open_name start (text ++ encode_utf8 c); groups = gs; complete = k } else q).token
name_extended true start text gs k c q s e fits h other = is_name-more text c s h e (fits refl)
name_extended false start text gs k c q s e fits h other = other

by_token : (token : Token) (gs : List Group) (k : Option Located) (n c : ℕ) → IsScalar c → refusal_of (record { token = token; groups = gs; complete = k }) c ≡ None → IsNameToken token → IsNameToken (after (record { token = token; groups = gs; complete = k }) n c).token
by_token no_token gs k n c s none h = IsNameToken-begun (record { token = no_token; groups = gs; complete = k }) n c s h
by_token comment gs k n c s none h = IsNameToken-choice (eqb c 10) (record { token = no_token; groups = gs; complete = k }) (record { token = comment; groups = gs; complete = k }) tt tt
by_token (open_name start text) gs k n c s none h =
    let r : Reading = record { token = open_name start text; groups = gs; complete = k } in
    name_extended (continues_name c) start text gs k c (after_beginning (ended r) n c (beginning_of c)) s refl (λ e. longer (continues_name c) c (length text) _ e none) h
    (IsNameToken-begun (ended r) n c s (IsNameToken-add_to (word start text) gs k))
by_token (open_number start value) gs k n c s none h =
    let r : Reading = record { token = open_number start value; groups = gs; complete = k } in
    IsNameToken-choice (is_digit c) _ (after_beginning (ended r) n c (beginning_of c)) tt (IsNameToken-begun (ended r) n c s (IsNameToken-add_to (number start value) gs k))
by_token (open_literal start bits) gs k n c s none h =
    let r : Reading = record { token = open_literal start bits; groups = gs; complete = k } in
    IsNameToken-choice (continues r.token c) _ (after_beginning (ended r) n c (beginning_of c)) tt (IsNameToken-begun (ended r) n c s (IsNameToken-add_to (literal start bits) gs k))

-- after any character that is not refused
pub IsNameToken-after : (r : Reading) (n c : ℕ) → IsScalar c → refusal_of r c ≡ None → IsNameToken r.token → IsNameToken (after r n c).token
IsNameToken-after r n c s none h = by_token r.token r.groups r.complete n c s none h
