-- Which refusals there are: each with its kind and its line. And the first one among the items of a document.
use Rattle.std.specs.Prelude.{◌≡◌, ℕ, suc, ◌<◌, List, [], ◌∷◌, slice_get, codes, Option, Some, None}
use Rattle.std.specs.Option.{option_or}
use Rattle.ipdl_base.specs.Limits.{limit_number}
use Rattle.ipdl_base.specs.declared.limit.Limit.{Limit}
use Rattle.ipdl_base.specs.declared.limit.Limit.TheVariants.{Channels, Depth, Output}
use Rattle.ipdl_term.specs.Sizes.{greatest_printed_depth}
use Rattle.ipdl_tree.specs.declared.fault.SpellCause.{SpellCause}
use Rattle.ipdl_typing.specs.Checks.{Failure}
use Rattle.ipdl_forms.specs.Documents.{Entry}
use Rattle.ipdl_forms.specs.declared.fault.FormCause.{FormCause}
use Rattle.ipdl_script.specs.Scripts.{Side}
use Rattle.ipdl_script.specs.Steps as S
use Rattle.ipdl_sig.specs.declared.symbol.Symbol.{Symbol}
use Rattle.ipdl_top.specs.Lines.{spell_cause_name, form_cause_name, at_byte, at_item, at_theorem, at_step, spell_line, form_line, limit_line, ill_line, step_cause_text, wrong_step_line, ends_line}
use Rattle.ipdl_top.specs.Statuses.{wrong, bad, over, Refusal, refusal_of}

-- ---- of a source

-- bytes that spell no tree
abbrev pub unspelled : (offset : ℕ) → SpellCause → Refusal
unspelled offset cause = refusal_of bad (spell_line offset (spell_cause_name cause))

-- a tree that is not of the form that is asked
abbrev pub misformed : (offset : ℕ) → FormCause → Refusal
misformed offset cause = refusal_of bad (form_line offset (form_cause_name cause))

-- a tree at which a count passes its limit
abbrev pub over_at_byte : Limit → (offset : ℕ) → Refusal
over_at_byte limit offset = refusal_of over (limit_line limit (limit_number limit) (at_byte offset))

-- ---- of an item

abbrev pub ill : (item : List ℕ) → Failure → Refusal
ill item f = refusal_of bad (ill_line item f)

-- more channels than are allowed
abbrev pub many_channels : (item : List ℕ) → Refusal
many_channels item = refusal_of over (limit_line Channels (limit_number Channels) (at_item item))

-- printed deeper than is allowed
abbrev pub too_deep : (item : List ℕ) → Refusal
too_deep item = refusal_of over (limit_line Depth greatest_printed_depth (at_item item))

-- ---- of a theorem

-- the greatest count of what a step gives
abbrev pub greatest_in_step : Limit → ℕ
greatest_in_step Depth = greatest_printed_depth
greatest_in_step limit = limit_number limit

-- with the step a count passes its limit
abbrev pub over_at_step : Limit → (theorem : List ℕ) → Side → (number : ℕ) → Refusal
over_at_step limit theorem side number =
    refusal_of over (limit_line limit (greatest_in_step limit) (at_step theorem side number))

-- the step, whose rule is told so, is wrong
abbrev pub wrong_step : List Symbol → (theorem : List ℕ) → Side → (number : ℕ) → (rule : List ℕ) → S.Refusal → Refusal
wrong_step symbols theorem side number rule cause =
    refusal_of wrong (wrong_step_line theorem side number rule (step_cause_text symbols cause))

-- the step is refused, by a limit or as wrong
abbrev pub step_refused : List Symbol → (theorem : List ℕ) → Side → (number : ℕ) → (rule : List ℕ) → S.Refusal → Refusal
step_refused symbols theorem side number rule (S.over limit) = over_at_step limit theorem side number
step_refused symbols theorem side number rule cause = wrong_step symbols theorem side number rule cause

-- its two ends differ first at a place
abbrev pub ends_differ : (theorem place : List ℕ) → Refusal
ends_differ theorem place = refusal_of wrong (ends_line theorem place)

-- with it the chains are longer than is allowed
abbrev pub long_chains : (theorem : List ℕ) → Refusal
long_chains theorem = refusal_of over (limit_line Output (limit_number Output) (at_theorem theorem))

-- ---- the first one

-- The refusal of the first item that is refused. Each item is judged by its index, and the first of these has this one.
abbrev pub first_refusal : (ℕ → Entry → Option Refusal) → (index : ℕ) → List Entry → Option Refusal
first_refusal judge index [] = None
first_refusal judge index (item ∷ items) = option_or (judge index item) (first_refusal judge (suc index) items)

-- an item is refused, and none before it is
pub record IsFirstRefused (judge : ℕ → Entry → Option Refusal) (items : List Entry) (refusal : Refusal) : Type 0 where
  pub index : ℕ
  pub item : Entry
  pub there : slice_get items index ≡ Some item
  pub refuses : judge index item ≡ Some refusal
  pub none_before : (i : ℕ) (e : Entry) → i < index → slice_get items i ≡ Some e → judge i e ≡ None
