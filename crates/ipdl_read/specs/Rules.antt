-- The tests of the list of a rule, for the functions that read it.
use Rattle.std.specs.Prelude.{◌≡◌, ℕ, suc, ◌==◌, Bool, true, false, List, [], ◌∷◌, ◌++◌, length, codes, bytes_eq, Option, None, Some, unwrap_or, if◌then◌else◌}
use Rattle.ipdl_term.specs.Rules.{RuleKind, at_reactions, at_expressions, at_protocols, ArgumentKind, expression_kind, symbol_kind, number_kind, name_kind, path_kind, width_kind, row_of, is_plain_word}
use Rattle.ipdl_term.specs.Steps.{Step, plain, rev, invoke}
use Rattle.ipdl_tree.specs.Trees.{Forest}
use Rattle.ipdl_forms.specs.declared.fault.FormCause.TheVariants.{NotAForm}
use Rattle.ipdl_forms.specs.declared.fault.DocFault.{DocFault}
use Rattle.ipdl_forms.specs.Faults.{form_fault, tested}
use Rattle.ipdl_forms.specs.Lists.{tree_count, tree_at, without_first}
use Rattle.ipdl_forms.specs.Scopes.{NameScope}
use Rattle.ipdl_forms.specs.Steps.{SpellsRule, SpellsTerm, path_faults, all_argument_faults}

-- the tests of the parts after a rule's word, the list being at an offset: a place, and arguments of these kinds
abbrev pub part_faults : NameScope → ℕ → List ArgumentKind → Forest → List DocFault
part_faults scope pos kinds ts =
    tested (tree_count ts == suc (length kinds)) (form_fault NotAForm pos)
    ++ (path_faults (tree_at 0 ts) ++ all_argument_faults scope kinds (without_first ts))

-- the parts after `rev`
abbrev pub SpellsReversed : NameScope → Step → Forest → Type 0
SpellsReversed scope (plain place rule) ts = ⊥
SpellsReversed scope (rev place rule term) ts =
    (tree_count ts ≡ 2) × SpellsRule scope place rule (tree_at 0 ts) × SpellsTerm scope (row_of rule).kind term (tree_at 1 ts)
SpellsReversed scope (invoke place name direction pairs) ts = ⊥

-- whether the word is that of a rule at expressions
abbrev pub is_expression_word : List ℕ → Bool
is_expression_word rule = if bytes_eq rule (codes "table") then true else bytes_eq rule (codes "lin")

-- whether rules of this kind change reactions
abbrev pub is_at_reactions : RuleKind → Bool
is_at_reactions at_reactions = true
is_at_reactions at_expressions = false
is_at_reactions at_protocols = false

-- the words of the rules that ask for arguments
abbrev pub asks_more : List ℕ → Bool
asks_more rule =
    if bytes_eq rule (codes "mask") then true
    else (if bytes_eq rule (codes "perm") then true
    else (if bytes_eq rule (codes "table") then true
    else (if bytes_eq rule (codes "lin") then true
    else (if bytes_eq rule (codes "rename") then true
    else (if bytes_eq rule (codes "fold") then true
    else (if bytes_eq rule (codes "subst") then true
    else (if bytes_eq rule (codes "subsume") then true
    else false)))))))

-- the kinds of the arguments that the rule of a word asks for, none where it is no rule's word
abbrev pub kinds_asked : List ℕ → Option (List ArgumentKind)
kinds_asked rule =
    if bytes_eq rule (codes "mask") then Some (expression_kind ∷ [])
    else (if bytes_eq rule (codes "perm") then Some (symbol_kind ∷ [])
    else (if bytes_eq rule (codes "table") then Some (number_kind ∷ expression_kind ∷ [])
    else (if bytes_eq rule (codes "lin") then Some (expression_kind ∷ [])
    else (if bytes_eq rule (codes "rename") then Some (name_kind ∷ [])
    else (if bytes_eq rule (codes "fold") then Some (path_kind ∷ [])
    else (if bytes_eq rule (codes "subst") then Some (path_kind ∷ [])
    else (if bytes_eq rule (codes "subsume") then Some (name_kind ∷ width_kind ∷ [])
    else (if is_plain_word rule then Some [] else None))))))))

-- whether so many parts follow a word: the place, and its arguments
abbrev pub has_kinds : Option (List ArgumentKind) → ℕ → Bool
has_kinds None count = false
has_kinds (Some kinds) count = count == suc (length kinds)

-- the tests of the parts after a word that may be a rule's
abbrev pub word_list_faults : NameScope → ℕ → Option (List ArgumentKind) → Forest → List DocFault
word_list_faults scope pos kinds ts =
    tested (has_kinds kinds (tree_count ts)) (form_fault NotAForm pos)
    ++ (path_faults (tree_at 0 ts) ++ all_argument_faults scope (unwrap_or kinds []) (without_first ts))
