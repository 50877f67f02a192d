-- The lines that say where and why something is refused.
use Rattle.std.specs.Prelude.{ℕ, Bool, List, [], ◌∷◌, ◌++◌, map, codes}
use Rattle.std.specs.Fmt.{decimal}
use Rattle.ipdl_base.specs.declared.limit.Limit.{Limit}
use Rattle.ipdl_base.specs.declared.limit.Limit.TheVariants.{Source, Depth, Items, Channels, Nodes, Steps, Chain, Output, Coins}
use Rattle.ipdl_commands.specs.Lines.{literal_text}
use Rattle.ipdl_tree.specs.declared.fault.SpellCause.{SpellCause}
use Rattle.ipdl_tree.specs.declared.fault.SpellCause.TheVariants.{BadByte, BadName, Unclosed, Extra, NoText}
use Rattle.ipdl_typing.specs.Checks.{Cause, width, unbound, no_symbol, unwritten, not_output, twice, new_unwritten, missing, interface, Failure}
use Rattle.ipdl_forms.specs.declared.fault.FormCause.{FormCause}
use Rattle.ipdl_forms.specs.declared.fault.FormCause.TheVariants.{NotAForm, UnknownName, Repeated, WrongWidth, TableLength}
use Rattle.ipdl_printing.specs.Printing.{binder_name, symbol_name}
use Rattle.ipdl_printing.specs.Texts.{line, spaced, in_parentheses, place_text}
use Rattle.ipdl_rules_r.specs.TruthTests.{TruthRefusal, abstract_symbol, too_large, too_wide, differ_at, other_forms}
use Rattle.ipdl_script.specs.Scripts.{Side, left_side, right_side}
use Rattle.ipdl_script.specs.Steps as S
use Rattle.ipdl_sig.specs.declared.symbol.Symbol.{Symbol}

-- ---- the words of causes

abbrev pub spell_cause_name : SpellCause → List ℕ
spell_cause_name BadByte = codes "BadByte"
spell_cause_name BadName = codes "BadName"
spell_cause_name Unclosed = codes "Unclosed"
spell_cause_name Extra = codes "Extra"
spell_cause_name NoText = codes "NoText"

abbrev pub form_cause_name : FormCause → List ℕ
form_cause_name NotAForm = codes "NotAForm"
form_cause_name UnknownName = codes "UnknownName"
form_cause_name Repeated = codes "Repeated"
form_cause_name WrongWidth = codes "WrongWidth"
form_cause_name TableLength = codes "TableLength"

abbrev pub limit_name : Limit → List ℕ
limit_name Source = codes "Source"
limit_name Depth = codes "Depth"
limit_name Items = codes "Items"
limit_name Channels = codes "Channels"
limit_name Nodes = codes "Nodes"
limit_name Steps = codes "Steps"
limit_name Chain = codes "Chain"
limit_name Output = codes "Output"
limit_name Coins = codes "Coins"

abbrev pub cause_text : Cause → List ℕ
cause_text (width want got) = spaced (codes "Width" ∷ decimal want ∷ decimal got ∷ [])
cause_text (unbound n) = spaced (codes "Unbound" ∷ decimal n ∷ [])
cause_text (no_symbol n) = spaced (codes "NoSymbol" ∷ decimal n ∷ [])
cause_text (unwritten c) = spaced (codes "Unwritten" ∷ c ∷ [])
cause_text (not_output c) = spaced (codes "NotOutput" ∷ c ∷ [])
cause_text (twice c) = spaced (codes "Twice" ∷ c ∷ [])
cause_text (new_unwritten c) = spaced (codes "NewUnwritten" ∷ c ∷ [])
cause_text (missing c) = spaced (codes "Missing" ∷ c ∷ [])
cause_text (interface c) = spaced (codes "Interface" ∷ c ∷ [])

abbrev pub side_name : Side → List ℕ
side_name left_side = codes "left"
side_name right_side = codes "right"

-- a variable, named by the depth of its binder, with its value
abbrev pub value_text : ℕ × List Bool → List ℕ
value_text v = in_parentheses (binder_name v.0 ∷ literal_text v.1 ∷ [])

-- texts, each with a blank before it
abbrev pub after_blanks : List (List ℕ) → List ℕ
after_blanks [] = []
after_blanks (text ∷ texts) = codes " " ++ text ++ after_blanks texts

-- why two expressions are not found equal
abbrev pub truth_cause_text : List Symbol → TruthRefusal → List ℕ
truth_cause_text symbols (abstract_symbol f) = spaced (codes "Abstract" ∷ symbol_name symbols f ∷ [])
truth_cause_text symbols (too_large bits) = spaced (codes "Large" ∷ decimal bits ∷ [])
truth_cause_text symbols (too_wide bits) = spaced (codes "TooWide" ∷ decimal bits ∷ [])
truth_cause_text symbols (differ_at valuation) = codes "NotSame" ++ after_blanks (map value_text valuation)
truth_cause_text symbols (other_forms bit) = spaced (codes "NotSame" ∷ codes "bit" ∷ decimal bit ∷ [])

-- why a step is refused. A limit has a line of its own
abbrev pub step_cause_text : List Symbol → S.Refusal → List ℕ
step_cause_text symbols S.no_place = codes "NoPlace"
step_cause_text symbols (S.no_variable n) = spaced (codes "NoVariable" ∷ decimal n ∷ [])
step_cause_text symbols S.no_match = codes "NoMatch"
step_cause_text symbols (S.side_fails n) = spaced (codes "Side" ∷ decimal n ∷ [])
step_cause_text symbols S.not_result = codes "NotResult"
step_cause_text symbols (S.ill_typed f) = spaced (codes "IllTyped" ∷ place_text f.path ∷ cause_text f.cause ∷ [])
step_cause_text symbols (S.untrue refusal) = truth_cause_text symbols refusal
step_cause_text symbols (S.no_channel c) = spaced (codes "NoChannel" ∷ c ∷ [])
step_cause_text symbols (S.not_injective c d) = spaced (codes "NotInjective" ∷ c ∷ d ∷ [])
step_cause_text symbols (S.captured c) = spaced (codes "Capture" ∷ c ∷ [])
step_cause_text symbols (S.no_port c) = spaced (codes "NoPort" ∷ c ∷ [])
step_cause_text symbols (S.over limit) = []

-- ---- where a limit is passed

abbrev pub at_byte : (offset : ℕ) → List (List ℕ)
at_byte offset = codes "byte" ∷ decimal offset ∷ []

abbrev pub at_item : (item : List ℕ) → List (List ℕ)
at_item item = codes "item" ∷ item ∷ []

abbrev pub at_theorem : (theorem : List ℕ) → List (List ℕ)
at_theorem theorem = codes "theorem" ∷ theorem ∷ []

-- at a step of a side of a theorem, the first one having the number 1
abbrev pub at_step : (theorem : List ℕ) → Side → (number : ℕ) → List (List ℕ)
at_step theorem side number = codes "theorem" ∷ theorem ∷ side_name side ∷ decimal number ∷ []

-- ---- lines

-- bytes that spell no tree, from the first byte on at which that shows
abbrev pub spell_line : (offset : ℕ) → (cause : List ℕ) → List ℕ
spell_line offset cause = line (spaced (codes "spell" ∷ decimal offset ∷ cause ∷ []))

-- a tree at an offset that is not of the form that is asked
abbrev pub form_line : (offset : ℕ) → (cause : List ℕ) → List ℕ
form_line offset cause = line (spaced (codes "form" ∷ decimal offset ∷ cause ∷ []))

-- a count that passes this number
abbrev pub limit_line : Limit → (number : ℕ) → (at_what : List (List ℕ)) → List ℕ
limit_line limit number at_what =
    line (spaced (codes "limit" ∷ limit_name limit ∷ decimal number ∷ codes "at" ∷ at_what))

-- an item that is ill typed
abbrev pub ill_line : (item : List ℕ) → Failure → List ℕ
ill_line item f = line (spaced (codes "ill" ∷ item ∷ place_text f.path ∷ cause_text f.cause ∷ []))

-- a step of a theorem that is wrong
abbrev pub wrong_step_line : (theorem : List ℕ) → Side → (number : ℕ) → (rule cause : List ℕ) → List ℕ
wrong_step_line theorem side number rule cause =
    line (spaced (codes "wrong" ∷ theorem ∷ side_name side ∷ decimal number ∷ rule ∷ cause ∷ []))

-- a theorem whose two ends differ first at a place
abbrev pub ends_line : (theorem : List ℕ) → (place : List ℕ) → List ℕ
ends_line theorem place = line (spaced (codes "wrong" ∷ theorem ∷ codes "ends" ∷ place_text place ∷ []))
