-- No two ports of an interface that is spelled have one name.
use Rattle.std.proofs.Common.{◌≡◌, ℕ, Bool, true, false, ◌||◌, List, [], ◌∷◌, ◌++◌, refl, sym, ap, subst, ◌∙◌}
use Rattle.std.specs.Prelude.{bytes_eq}
use Rattle.std.proofs.lemmas.Bool.{true≢false}
use Rattle.std.proofs.lemmas.List.{map-append}
use Rattle.std.proofs.lemmas.List.Folds.{list_any-append}
use Rattle.ipdl_forms.specs.Items.{ArePorts, SpellsInterface}
use Rattle.ipdl_forms.specs.Lists.{is_among, operands}
use Rattle.ipdl_term.proofs.ChannelSets.{same_channel-sound, same_channel-itself, bytes_eq-same_channel, has-append}
use Rattle.ipdl_term.specs.Channels.{has, same_channel}
use Rattle.ipdl_term.specs.Typing.{port_names}
use Rattle.ipdl_term.specs.declared.interface.Interface.{Interface}
use Rattle.ipdl_term.specs.declared.interface.Port.{Port}
use Rattle.ipdl_tree.specs.Trees.{Located, Forest, no_trees, tree}
use Rattle.ipdl_typing.specs.Interfaces.{HasEachNameOnce}

or_first : (b c : Bool) → b ≡ true → (b || c) ≡ true
or_first true c e = refl
or_first false c e = cc

or_later : (b c : Bool) → c ≡ true → (b || c) ≡ true
or_later true c e = refl
or_later false c e = e

neither_test : (b c : Bool) → b ≡ false → c ≡ false → (b || c) ≡ false
neither_test true c e f = cc
neither_test false c e f = f

-- a name that stands among some still does with others after them
is_among-more : (names others : List (List ℕ)) (name : List ℕ) → is_among names name ≡ true → is_among (names ++ others) name ≡ true
is_among-more names others name e =
    list_any-append (bytes_eq name) names others ∙ or_first (is_among names name) (is_among others name) e

is_among-last : (names : List (List ℕ)) (name : List ℕ) → is_among (names ++ name ∷ []) name ≡ true
is_among-last names name =
    list_any-append (bytes_eq name) names (name ∷ [])
    ∙ or_later (is_among names name) (is_among (name ∷ []) name)
    (or_first (bytes_eq name name) false (bytes_eq-same_channel name name ∙ same_channel-itself name))

is_among-has : (names : List (List ℕ)) (name : List ℕ) → has names name ≡ true → is_among names name ≡ true
is_among-has [] name e = cc
is_among-has (other ∷ names) name e = by_first (same_channel other name) refl (is_among-has names name)
  where
    by_first : (b : Bool) → same_channel other name ≡ b → (has names name ≡ true → is_among names name ≡ true) → is_among (other ∷ names) name ≡ true
    by_first true same later =
        or_first (bytes_eq name other) (is_among names name)
        (bytes_eq-same_channel name other ∙ subst (λ n. same_channel n other ≡ true) (same_channel-sound other name same) (same_channel-itself other))
    by_first false same later =
        or_later (bytes_eq name other) (is_among names name)
        (later (sym (ap (λ b. b || has names name) same) ∙ e))

-- an earlier name is not that of a port
fresh : (before : List (List ℕ)) (ports : List Port) (ts : Forest) → ArePorts before ports ts → (name : List ℕ) → is_among before name ≡ true → has (port_names ports) name ≡ false
fresh before [] ts are name earlier = refl
fresh before (p ∷ ports) no_trees are name earlier = absurd are
fresh before (p ∷ ports) (tree t ts) are name earlier =
    neither_test (same_channel p.name name) (has (port_names ports) name) (by_test (same_channel p.name name) refl)
    (fresh (before ++ p.name ∷ []) ports ts are.2 name (is_among-more before (p.name ∷ []) name earlier))
  where
    by_test : (b : Bool) → same_channel p.name name ≡ b → same_channel p.name name ≡ false
    by_test false e = e
    by_test true e =
        absurd (true≢false (sym (subst (λ n. is_among before n ≡ true) (sym (same_channel-sound p.name name e)) earlier) ∙ are.1))

once : (before : List (List ℕ)) (ports : List Port) (ts : Forest) → ArePorts before ports ts → HasEachNameOnce ports
once before [] ts are = tt
once before (p ∷ ports) no_trees are = absurd are
once before (p ∷ ports) (tree t ts) are = (
  fresh (before ++ p.name ∷ []) ports ts are.2 p.name (is_among-last before p.name),
  once (before ++ p.name ∷ []) ports ts are.2,
)

once_together : (ps qs : List Port) → HasEachNameOnce ps → HasEachNameOnce qs → ((name : List ℕ) → has (port_names ps) name ≡ true → has (port_names qs) name ≡ false) → HasEachNameOnce (ps ++ qs)
once_together [] qs first second apart = second
once_together (p ∷ ps) qs first second apart = (
  ap (λ names. has names p.name) (map-append (λ (port : Port). port.name) ps qs)
      ∙ has-append (port_names ps) (port_names qs) p.name
      ∙ neither_test (has (port_names ps) p.name) (has (port_names qs) p.name) first.0
      (apart p.name (or_first (same_channel p.name p.name) (has (port_names ps) p.name) (same_channel-itself p.name))),
  once_together ps qs first.1 second (λ name is. apart name (or_later (same_channel p.name name) (has (port_names ps) name) is)),
)

pub HasEachNameOnce-spelled : (interface : Interface) (inputs outputs : Located) → SpellsInterface interface inputs outputs → HasEachNameOnce (interface.inputs ++ interface.outputs)
HasEachNameOnce-spelled interface inputs outputs spelled =
    once_together interface.inputs interface.outputs
    (once [] interface.inputs (operands inputs) spelled.1)
    (once (port_names interface.inputs) interface.outputs (operands outputs) spelled.3)
    (λ name is. fresh (port_names interface.inputs) interface.outputs (operands outputs) spelled.3 name (is_among-has (port_names interface.inputs) name is))
