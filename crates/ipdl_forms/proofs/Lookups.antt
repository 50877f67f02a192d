-- Looking up protocols by their names.
use Rattle.std.proofs.Common.{◌≡◌, ℕ, Bool, true, false, List, [], ◌∷◌, Option, Some, None, is_some, IsNone, Bor, refl, sym, ap, subst, ◌∙◌, rules}
use Rattle.std.specs.Option.{option_copied}
use Rattle.std.specs.Prelude.{bytes_eq, ◌||◌, if◌then◌else◌}
use Rattle.std.proofs.lemmas.Bool.{false≢true}
use Rattle.std.proofs.lemmas.Slice.Eq.{bytes_eq-Decides}
use Rattle.ipdl_forms.specs.declared.document.Item.{Item}
use Rattle.ipdl_forms.specs.declared.document.Item.TheVariants as I
use Rattle.ipdl_forms.specs.declared.document.ProtocolItem.{ProtocolItem}
use Rattle.ipdl_forms.specs.Earlier.{protocol_names}
use Rattle.ipdl_forms.specs.Lists.{is_among}
use Rattle.ipdl_forms.specs.Lookups.{protocol_named}

-- the test that compares two names, with the names exchanged
pub bytes_eq-turned : (a b : List ℕ) → bytes_eq a b ≡ bytes_eq b a
bytes_eq-turned a b = by (bytes_eq a b) (bytes_eq b a) refl refl
  where
    by : (x y : Bool) → bytes_eq a b ≡ x → bytes_eq b a ≡ y → bytes_eq a b ≡ bytes_eq b a
    by true true one other = one ∙ sym other
    by true false one other =
        absurd (false≢true (sym other ∙ (bytes_eq-Decides b a).1 (sym ((bytes_eq-Decides a b).0 one))))
    by false true one other =
        absurd (false≢true (sym one ∙ (bytes_eq-Decides a b).1 (sym ((bytes_eq-Decides b a).0 other))))
    by false false one other = one ∙ sym other

-- a protocol is found where its name is among theirs
pub is_some-protocol_named : (items : List Item) (name : List ℕ) → is_some (protocol_named items name) ≡ is_among (protocol_names items) name
is_some-protocol_named [] name = refl
is_some-protocol_named (I.Symbol n ∷ items) name = is_some-protocol_named items name
is_some-protocol_named (I.Protocol p ∷ items) name =
    subst (λ b. is_some (if b then Some p else protocol_named items name) ≡ (bytes_eq name p.name || is_among (protocol_names items) name)) (bytes_eq-turned name p.name)
    (by (bytes_eq name p.name) (is_some-protocol_named items name))
  where
    by : (b : Bool) → is_some (protocol_named items name) ≡ is_among (protocol_names items) name → is_some (if b then Some p else protocol_named items name) ≡ (b || is_among (protocol_names items) name)
    by true rest = refl
    by false rest = rest
is_some-protocol_named (I.Assumption a ∷ items) name = is_some-protocol_named items name
is_some-protocol_named (I.Theorem t ∷ items) name = is_some-protocol_named items name

-- none is found exactly where the name is not among theirs
pub IsNone-protocol_named : (r : Option (Bor ProtocolItem)) (items : List Item) (name : List ℕ) → option_copied r ≡ protocol_named items name → (IsNone r → is_among (protocol_names items) name ≡ false) × (is_among (protocol_names items) name ≡ false → IsNone r)
IsNone-protocol_named None items name is =
    (λ _. sym (is_some-protocol_named items name) ∙ sym (ap is_some is), λ _. search rules)
IsNone-protocol_named (Some p) items name is =
    let found : true ≡ is_among (protocol_names items) name = ap is_some is ∙ is_some-protocol_named items name in
    (λ none. cc, λ none. absurd (false≢true (sym none ∙ sym found)))
