-- The items and the document that trees spell do not depend on their offsets.
use Rattle.std.proofs.Common.{◌≡◌, ℕ, Bool, List, [], ◌∷◌, ◌++◌, Option, Some, None, sym, ◌∙◌}
use Rattle.std.specs.Prelude.{codes}
use Rattle.ipdl_term.specs.declared.interface.Interface.{Interface}
use Rattle.ipdl_term.specs.declared.interface.Port.{Port}
use Rattle.ipdl_tree.specs.Trees.{Located, Forest, no_trees, tree, without_offsets}
use Rattle.ipdl_forms.specs.Documents.{Entry, symbol_entry, protocol_entry, assumption_entry, theorem_entry, Document}
use Rattle.ipdl_term.specs.Typing.{port_names}
use Rattle.ipdl_forms.specs.Items.{nothing_earlier, earlier_with, body_scope, SpellsNewName, AreValues, SpellsSymbol, ArePorts, SpellsInterface, SpellsSides, SpellsEntry, AreEntries, this_version, SpellsDocument}
use Rattle.ipdl_forms.specs.Lists.{without_first, parts_of, literal_in, operands, operand}
use Rattle.ipdl_forms.specs.Steps.{Earlier}
use Rattle.ipdl_forms.proofs.Offsetless.{AreAlike, kept, literal_in-offsetless, operands_alike, form_alike, long_form_alike, word_alike, width_alike, port_alike, SpellsProtocol-offsetless}
use Rattle.ipdl_forms.proofs.OffsetlessSteps.{AreAllAlike, first_alike, rest_alike, all_parts_alike, all_operands_alike, without_first_alike, number_alike, head_alike, SpellsSide-offsetless}

SpellsNewName-offsetless : (earlier : Earlier) (name : List ℕ) (t u : Located) → SpellsNewName earlier name t → AreAlike t u → SpellsNewName earlier name u
SpellsNewName-offsetless earlier name t u is alike = (word_alike name t u alike is.0, is.1)

-- ---- symbols

AreValues-offsetless : (w : ℕ) (vs : List (List Bool)) (ts us : Forest) → AreValues w vs ts → AreAllAlike ts us → AreValues w vs us
AreValues-offsetless w [] no_trees no_trees is alike = tt
AreValues-offsetless w [] no_trees (tree u us) is alike = cc
AreValues-offsetless w [] (tree t ts) us is alike = absurd is
AreValues-offsetless w (v ∷ vs) no_trees us is alike = absurd is
AreValues-offsetless w (v ∷ vs) (tree t ts) no_trees is alike = cc
AreValues-offsetless w (v ∷ vs) (tree t ts) (tree u us) is alike =
    (sym (kept literal_in literal_in-offsetless t u (first_alike t u ts us alike)) ∙ is.0, is.1, AreValues-offsetless w vs ts us is.2 (rest_alike t u ts us alike))

SpellsSymbol-offsetless : (earlier : Earlier) (name : List ℕ) (from to : ℕ) (values : Option (List (List Bool))) (t u : Located) → SpellsSymbol earlier (record { name = name; from = from; to = to; values = values }) t → AreAlike t u → SpellsSymbol earlier (record { name = name; from = from; to = to; values = values }) u
SpellsSymbol-offsetless earlier name from to None t u is alike = (
  SpellsNewName-offsetless earlier name (operand 0 t) (operand 0 u) is.0 (operands_alike 0 t u alike),
  number_alike from (operand 1 t) (operand 1 u) (operands_alike 1 t u alike) is.1,
  width_alike to (operand 2 t) (operand 2 u) (operands_alike 2 t u alike) is.2,
  (form_alike (codes "fun") 3 t u alike is.3.0, is.3.1),
)
SpellsSymbol-offsetless earlier name from to (Some values) t u is alike = (
  SpellsNewName-offsetless earlier name (operand 0 t) (operand 0 u) is.0 (operands_alike 0 t u alike),
  number_alike from (operand 1 t) (operand 1 u) (operands_alike 1 t u alike) is.1,
  width_alike to (operand 2 t) (operand 2 u) (operands_alike 2 t u alike) is.2,
  (
    form_alike (codes "table") 4 t u alike is.3.0,
    is.3.1,
    AreValues-offsetless to values (parts_of (operand 3 t)) (parts_of (operand 3 u)) is.3.2 (all_parts_alike (operand 3 t) (operand 3 u) (operands_alike 3 t u alike)),
    is.3.3,
  ),
)

-- ---- protocols

ArePorts-offsetless : (before : List (List ℕ)) (ps : List Port) (ts us : Forest) → ArePorts before ps ts → AreAllAlike ts us → ArePorts before ps us
ArePorts-offsetless before [] no_trees no_trees is alike = tt
ArePorts-offsetless before [] no_trees (tree u us) is alike = cc
ArePorts-offsetless before [] (tree t ts) us is alike = absurd is
ArePorts-offsetless before (p ∷ ps) no_trees us is alike = absurd is
ArePorts-offsetless before (p ∷ ps) (tree t ts) no_trees is alike = cc
ArePorts-offsetless before (p ∷ ps) (tree t ts) (tree u us) is alike =
    (port_alike p.name p.width t u (first_alike t u ts us alike) is.0, is.1, ArePorts-offsetless (before ++ p.name ∷ []) ps ts us is.2 (rest_alike t u ts us alike))

SpellsInterface-offsetless : (interface : Interface) (t u x y : Located) → SpellsInterface interface t x → AreAlike t u → AreAlike x y → SpellsInterface interface u y
SpellsInterface-offsetless interface t u x y is left right = (
  head_alike (codes "inputs") t u left is.0,
  ArePorts-offsetless [] interface.inputs (operands t) (operands u) is.1 (all_operands_alike t u left),
  head_alike (codes "outputs") x y right is.2,
  ArePorts-offsetless (port_names interface.inputs) interface.outputs (operands x) (operands y) is.3 (all_operands_alike x y right),
)

-- ---- items

SpellsSides-offsetless : (earlier : Earlier) (left right : List ℕ) (t u : Located) → SpellsSides earlier left right t → AreAlike t u → SpellsSides earlier left right u
SpellsSides-offsetless earlier left right t u is alike = (
  word_alike left (operand 1 t) (operand 1 u) (operands_alike 1 t u alike) is.0,
  is.1,
  word_alike right (operand 2 t) (operand 2 u) (operands_alike 2 t u alike) is.2,
  is.3,
)

SpellsEntry-offsetless : (earlier : Earlier) (e : Entry) (t u : Located) → SpellsEntry earlier e t → AreAlike t u → SpellsEntry earlier e u
SpellsEntry-offsetless earlier (symbol_entry n symbol) t u is alike =
    (is.0, SpellsSymbol-offsetless earlier symbol.name symbol.from symbol.to symbol.values t u is.1 alike)
SpellsEntry-offsetless earlier (protocol_entry name interface body) t u is alike = (
  form_alike (codes "protocol") 4 t u alike is.0,
  SpellsNewName-offsetless earlier name (operand 0 t) (operand 0 u) is.1 (operands_alike 0 t u alike),
  SpellsInterface-offsetless interface (operand 1 t) (operand 1 u) (operand 2 t) (operand 2 u) is.2 (operands_alike 1 t u alike) (operands_alike 2 t u alike),
  SpellsProtocol-offsetless (body_scope earlier) body (operand 3 t) (operand 3 u) is.3 (operands_alike 3 t u alike),
)
SpellsEntry-offsetless earlier (assumption_entry name left right) t u is alike = (
  form_alike (codes "assume") 3 t u alike is.0,
  SpellsNewName-offsetless earlier name (operand 0 t) (operand 0 u) is.1 (operands_alike 0 t u alike),
  SpellsSides-offsetless earlier left right t u is.2 alike,
)
SpellsEntry-offsetless earlier (theorem_entry name left right lefts rights) t u is alike = (
  form_alike (codes "theorem") 5 t u alike is.0,
  SpellsNewName-offsetless earlier name (operand 0 t) (operand 0 u) is.1 (operands_alike 0 t u alike),
  SpellsSides-offsetless earlier left right t u is.2 alike,
  SpellsSide-offsetless earlier (codes "left") lefts (operand 3 t) (operand 3 u) is.3 (operands_alike 3 t u alike),
  SpellsSide-offsetless earlier (codes "right") rights (operand 4 t) (operand 4 u) is.4 (operands_alike 4 t u alike),
)

-- ---- documents

AreEntries-offsetless : (earlier : Earlier) (es : List Entry) (ts us : Forest) → AreEntries earlier es ts → AreAllAlike ts us → AreEntries earlier es us
AreEntries-offsetless earlier [] no_trees no_trees is alike = tt
AreEntries-offsetless earlier [] no_trees (tree u us) is alike = cc
AreEntries-offsetless earlier [] (tree t ts) us is alike = absurd is
AreEntries-offsetless earlier (e ∷ es) no_trees us is alike = absurd is
AreEntries-offsetless earlier (e ∷ es) (tree t ts) no_trees is alike = cc
AreEntries-offsetless earlier (e ∷ es) (tree t ts) (tree u us) is alike =
    (SpellsEntry-offsetless earlier e t u is.0 (first_alike t u ts us alike), AreEntries-offsetless (earlier_with e earlier) es ts us is.1 (rest_alike t u ts us alike))

pub SpellsDocument-offsetless : (d : Document) (t u : Located) → SpellsDocument d t → without_offsets t ≡ without_offsets u → SpellsDocument d u
SpellsDocument-offsetless d t u is alike = (
  long_form_alike (codes "ipdl") 1 t u alike is.0,
  is.1,
  number_alike this_version (operand 0 t) (operand 0 u) (operands_alike 0 t u alike) is.2,
  AreEntries-offsetless nothing_earlier d.entries (without_first (operands t)) (without_first (operands u)) is.3 (without_first_alike (operands t) (operands u) (all_operands_alike t u alike)),
  is.4,
)
