-- There is one reply to `run`, and one to `shape`.
use Rattle.std.proofs.Common.{◌≡◌, ℕ, Bool, List, Option, Some, None, ◌⊎◌, inl, inr, refl, sym, ap, ◌∙◌}
use Rattle.std.proofs.lemmas.Option.{same_Some}
use Rattle.ipdl_commands.specs.Lines.{ItemRefusal, no_item, item_line}
use Rattle.ipdl_forms.specs.Networks.{Network}
use Rattle.ipdl_commands.specs.Running.{IsRunAnswer, IsRunRefusal, run_refusal, run_text}
use Rattle.ipdl_commands.specs.Shapes.{IsShapeAnswer, IsShapeRefusal, shape_refusal, shape_text}
use Rattle.ipdl_sig.specs.declared.symbol.Symbol.{Symbol}

none_and_some : {A : Type 0} {x : Option A} (y : A) → x ≡ None → x ≡ Some y → ⊥
none_and_some y e f = cc

-- ---- `run`

pub one_answer : (symbols : List Symbol) (name : List ℕ) (tape : List Bool) (found : Option Network) (text other : List ℕ) → IsRunAnswer symbols name tape found text → IsRunAnswer symbols name tape found other → text ≡ other
one_answer symbols name tape found text other a b =
    a.written ∙ ap (run_text symbols name tape) (same_Some a.network b.network (sym a.there ∙ b.there)) ∙ sym b.written

pub one_refusal : (symbols : List Symbol) (name : List ℕ) (tape : List Bool) (found : Option Network) (text other : List ℕ) → IsRunRefusal symbols name tape found text → IsRunRefusal symbols name tape found other → text ≡ other
one_refusal symbols name tape found text other a b =
    a.written ∙ ap (item_line name) (same_Some a.refusal b.refusal (sym a.refused ∙ b.refused)) ∙ sym b.written

pub not_both : (symbols : List Symbol) (name : List ℕ) (tape : List Bool) (found : Option Network) (text line : List ℕ) → IsRunAnswer symbols name tape found text → IsRunRefusal symbols name tape found line → ⊥
not_both symbols name tape found text line a b = none_and_some b.refusal a.accepted b.refused

-- a refusal of what is found, or its text
pub some_reply : (symbols : List Symbol) (name : List ℕ) (tape : List Bool) (found : Option Network) → ((text : List ℕ) × IsRunAnswer symbols name tape found text) ⊎ ((line : List ℕ) × IsRunRefusal symbols name tape found line)
some_reply symbols name tape None =
    inr (item_line name no_item, record { refusal = no_item; refused = refl; written = refl })
some_reply symbols name tape (Some network) = by (run_refusal symbols tape (Some network)) refl
  where
    by : (refusal : Option ItemRefusal) → run_refusal symbols tape (Some network) ≡ refusal → ((text : List ℕ) × IsRunAnswer symbols name tape (Some network) text) ⊎ ((line : List ℕ) × IsRunRefusal symbols name tape (Some network) line)
    by None e =
        inl (run_text symbols name tape network, record { network = network; there = refl; accepted = e; written = refl })
    by (Some r) e = inr (item_line name r, record { refusal = r; refused = e; written = refl })

-- ---- `shape`

pub shape_one_answer : (symbols : List Symbol) (name : List ℕ) (found : Option Network) (text other : List ℕ) → IsShapeAnswer symbols found text → IsShapeAnswer symbols found other → text ≡ other
shape_one_answer symbols name found text other a b =
    a.written ∙ ap (λ n. shape_text symbols n.body) (same_Some a.network b.network (sym a.there ∙ b.there)) ∙ sym b.written

pub shape_one_refusal : (symbols : List Symbol) (name : List ℕ) (found : Option Network) (text other : List ℕ) → IsShapeRefusal name found text → IsShapeRefusal name found other → text ≡ other
shape_one_refusal symbols name found text other a b =
    a.written ∙ ap (item_line name) (same_Some a.refusal b.refusal (sym a.refused ∙ b.refused)) ∙ sym b.written

pub shape_not_both : (symbols : List Symbol) (name : List ℕ) (found : Option Network) (text line : List ℕ) → IsShapeAnswer symbols found text → IsShapeRefusal name found line → ⊥
shape_not_both symbols name found text line a b = none_and_some b.refusal a.accepted b.refused

-- a refusal of what is found, or the line of its shape
pub shape_some_reply : (symbols : List Symbol) (name : List ℕ) (found : Option Network) → ((text : List ℕ) × IsShapeAnswer symbols found text) ⊎ ((line : List ℕ) × IsShapeRefusal name found line)
shape_some_reply symbols name None =
    inr (item_line name no_item, record { refusal = no_item; refused = refl; written = refl })
shape_some_reply symbols name (Some network) = by (shape_refusal (Some network)) refl
  where
    by : (refusal : Option ItemRefusal) → shape_refusal (Some network) ≡ refusal → ((text : List ℕ) × IsShapeAnswer symbols (Some network) text) ⊎ ((line : List ℕ) × IsShapeRefusal name (Some network) line)
    by None e = inl (shape_text symbols network.body, record { network = network; there = refl; accepted = e; written = refl })
    by (Some r) e = inr (item_line name r, record { refusal = r; refused = e; written = refl })
