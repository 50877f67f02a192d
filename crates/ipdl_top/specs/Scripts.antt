-- Theorems by their scripts: what refuses a theorem, and which ones are proved.
use Rattle.std.specs.Prelude.{ℕ, suc, ◌+◌, ◌-◌, ◌≤◌, ◌&&◌, nat_lt, Bool, true, false, List, [], ◌∷◌, length, take, slice_get, codes, Option, Some, None, option_map, if◌then◌else◌}
use Rattle.std.specs.Option.{option_or}
use Rattle.ipdl_base.specs.Limits.{limit_number}
use Rattle.ipdl_base.specs.declared.limit.Limit.TheVariants.{Output}
use Rattle.ipdl_chain.specs.ChainTexts.{assumptions_in}
use Rattle.ipdl_forms.specs.Documents.{Document, Entry, symbol_entry, protocol_entry, assumption_entry, theorem_entry}
use Rattle.ipdl_printing.specs.Texts.{spaced}
use Rattle.ipdl_script.specs.Known.{Proved}
use Rattle.ipdl_script.specs.Scripts.{IsChain, Side, left_side, right_side, Wrong, wrong_step, wrong_ends, first_wrong}
use Rattle.ipdl_sig.specs.declared.symbol.Symbol.{Symbol}
use Rattle.ipdl_term.specs.Rules.{rule_word}
use Rattle.ipdl_term.specs.Steps.{Step, plain, rev, invoke}
use Rattle.ipdl_top.specs.Chains.{Claim, claim_of, claim_chain, theorems_with, theorems_before, item_neighbours, items_neighbours, claim_text, items_text, chains_text}
use Rattle.ipdl_top.specs.Refusals.{step_refused, ends_differ, long_chains, first_refusal}
use Rattle.ipdl_top.specs.Statuses.{Refusal}

-- ---- what is wrong with a script

-- how the rule of a step is told
abbrev pub rule_text : Step → List ℕ
rule_text (plain place rule) = rule_word rule
rule_text (rev place rule term) = spaced (codes "rev" ∷ rule_word rule ∷ [])
rule_text (invoke place name direction pairs) = spaced (codes "use" ∷ name ∷ [])

abbrev pub rule_text_in : Option Step → List ℕ
rule_text_in None = []
rule_text_in (Some step) = rule_text step

-- that of the step of a number, the first one having the number 1
abbrev pub rule_text_at : List Step → (number : ℕ) → List ℕ
rule_text_at steps number = rule_text_in (slice_get steps (number - 1))

-- the steps of a side
abbrev pub steps_on : (lefts rights : List Step) → Side → List Step
steps_on lefts rights left_side = lefts
steps_on lefts rights right_side = rights

abbrev pub wrong_refusal : List Symbol → (theorem : List ℕ) → (lefts rights : List Step) → Wrong → Refusal
wrong_refusal symbols theorem lefts rights (wrong_step side number refusal) =
    step_refused symbols theorem side number (rule_text_at (steps_on lefts rights side) number) refusal
wrong_refusal symbols theorem lefts rights (wrong_ends place) = ends_differ theorem place

-- ---- the test that fails

-- so many bytes have the chains with that of the theorem
abbrev pub length_refusal : (theorem : List ℕ) → (written : ℕ) → Option Refusal
length_refusal theorem written = if nat_lt (limit_number Output) written then Some (long_chains theorem) else None

-- what refuses a claim: the first thing that is wrong with its scripts, and then the length of the chains. The chains
-- before it have so many neighbours, and so many bytes.
abbrev pub claim_refusal : List Symbol → (assumptions : List (List ℕ)) → (neighbours written : ℕ) → Option Claim → Option Refusal
claim_refusal symbols assumptions neighbours written None = None
claim_refusal symbols assumptions neighbours written (Some claim) =
    option_or
    (option_map (wrong_refusal symbols claim.name claim.theorem.lefts claim.theorem.rights)
    (first_wrong claim.setting neighbours claim.theorem))
    (length_refusal claim.name (written + length (claim_text symbols assumptions (Some claim))))

-- the first test of a theorem that fails, which may use these theorems
abbrev pub theorem_refusal : List Symbol → List Entry → List Proved → (neighbours written : ℕ) → Entry → Option Refusal
theorem_refusal symbols entries theorems neighbours written item =
    claim_refusal symbols (assumptions_in entries) neighbours written (claim_of symbols entries theorems item)

-- each theorem is judged by its scripts, and by the chains before it
abbrev pub judged_by_script : Document → ℕ → Entry → Option Refusal
judged_by_script d index item =
    theorem_refusal d.symbols d.entries (theorems_before d.symbols d.entries index)
    (items_neighbours d.symbols d.entries [] (take index d.entries))
    (length (items_text d.symbols d.entries [] (take index d.entries))) item

-- that of the first theorem that is refused
abbrev pub script_refusal : Document → Option Refusal
script_refusal d = first_refusal (judged_by_script d) 0 d.entries

-- ---- proved

-- both protocols are there, and the chain of the scripts is one, where the chains before it have so many neighbours
abbrev pub HasChain : (neighbours : ℕ) → Option Claim → Type 0
HasChain neighbours None = ⊥
HasChain neighbours (Some claim) = IsChain claim.setting neighbours claim.theorem (claim_chain claim)

-- a theorem is proved by its scripts, which may use these theorems
abbrev pub IsProvedItem : List Symbol → List Entry → List Proved → (neighbours : ℕ) → Entry → Type 0
IsProvedItem symbols entries theorems neighbours (theorem_entry name left right lefts rights) =
    HasChain neighbours (claim_of symbols entries theorems (theorem_entry name left right lefts rights))
IsProvedItem symbols entries theorems neighbours (symbol_entry n s) = Unit {0}
IsProvedItem symbols entries theorems neighbours (protocol_entry name interface body) = Unit {0}
IsProvedItem symbols entries theorems neighbours (assumption_entry name left right) = Unit {0}

abbrev pub AreProved : List Symbol → List Entry → List Proved → (neighbours : ℕ) → List Entry → Type 0
AreProved symbols entries theorems neighbours [] = Unit {0}
AreProved symbols entries theorems neighbours (item ∷ items) =
    IsProvedItem symbols entries theorems neighbours item
    × AreProved symbols entries (theorems_with symbols entries theorems item)
    (neighbours + item_neighbours symbols entries theorems item) items

-- each theorem is proved by its scripts, which may use those before it
abbrev pub IsProvedDocument : Document → Type 0
IsProvedDocument d = AreProved d.symbols d.entries [] 0 d.entries

-- the chains are not longer than is allowed
abbrev pub HasShortChains : Document → Type 0
HasShortChains d = length (chains_text d) ≤ limit_number Output
