-- The command `run`: what a closed protocol writes at its outputs on a tape.
use Rattle.std.specs.Prelude.{◌≡◌, ℕ, nat_lt, Bool, List, [], ◌∷◌, ◌++◌, length, map, codes, slice_get, Option, Some, None, option_map, if◌then◌else◌}
use Rattle.std.specs.Fmt.{decimal}
use Rattle.std.specs.Option.{option_or}
use Rattle.ipdl_commands.specs.Lines.{literal_text, ItemRefusal, no_item, open_input, abstract_symbol, short_tape, item_line}
use Rattle.ipdl_forms.specs.Networks.{Network, network_named}
use Rattle.ipdl_forms.specs.Documents.{Document}
use Rattle.ipdl_mean.specs.Refusals.{first_abstract}
use Rattle.ipdl_printing.specs.Printing.{symbol_name}
use Rattle.ipdl_printing.specs.Texts.{line, spaced}
use Rattle.ipdl_sig.specs.declared.symbol.Symbol.{Symbol}
use Rattle.ipdl_term.specs.Protocols.{coins, protocol_valuation}
use Rattle.ipdl_term.specs.Terms.{Value, Channel, Protocol}
use Rattle.ipdl_term.specs.Typing.{port_names}
use Rattle.ipdl_term.specs.Valuations.{Valuation, nothing}
use Rattle.ipdl_term.specs.declared.interface.Interface.{Interface}
use Rattle.ipdl_truth.specs.Tables.{tables_of}
use Rattle.ipdl_typing.specs.Signatures.{signature_of}

-- ---- refused

-- the first input is open
abbrev pub input_refusal : Interface → Option ItemRefusal
input_refusal interface = option_map open_input (slice_get (port_names interface.inputs) 0)

-- the first abstract symbol in preorder
abbrev pub symbol_refusal : List Symbol → Protocol → Option ItemRefusal
symbol_refusal symbols body =
    option_map (λ f. abstract_symbol (symbol_name symbols f)) (first_abstract (signature_of symbols) body)

-- fewer bits than coins
abbrev pub tape_refusal : (tape : List Bool) → Protocol → Option ItemRefusal
tape_refusal tape body =
    if nat_lt (length tape) (coins body) then Some (short_tape (coins body) (length tape)) else None

-- the first test that fails of the protocol that has the name, if one has it
abbrev pub run_refusal : List Symbol → (tape : List Bool) → Option Network → Option ItemRefusal
run_refusal symbols tape None = Some no_item
run_refusal symbols tape (Some network) =
    option_or (input_refusal network.interface)
    (option_or (symbol_refusal symbols network.body) (tape_refusal tape network.body))

-- ---- answered

abbrev pub coins_line : (name : List ℕ) → (count : ℕ) → List ℕ
coins_line name count = line (spaced (codes "run" ∷ name ∷ codes "coins" ∷ decimal count ∷ []))

-- the value at an output, which may not be written
abbrev pub value_text : Option Value → List ℕ
value_text None = codes "stuck"
value_text (Some value) = literal_text value

abbrev pub output_line : Channel → Option Value → List ℕ
output_line channel value = line (spaced (codes "output" ∷ channel ∷ value_text value ∷ []))

-- a line for each channel, with its value
abbrev pub output_lines : List Channel → List (Option Value) → List ℕ
output_lines (channel ∷ channels) (value ∷ values) = output_line channel value ++ output_lines channels values
output_lines _ _ = []

-- what the protocol writes on the tape where nothing is written around it, the symbols being their tables
abbrev pub run_values : List Symbol → (tape : List Bool) → Protocol → Valuation
run_values symbols tape body = protocol_valuation (tables_of (signature_of symbols)) body tape nothing

-- the coins, and the outputs in the order in which they are declared
unfoldable pub run_text : List Symbol → (name : List ℕ) → (tape : List Bool) → Network → List ℕ
run_text symbols name tape network =
    let channels = port_names network.interface.outputs in
    coins_line name (coins network.body) ++ output_lines channels (map (run_values symbols tape network.body) channels)

-- ---- the two replies, to the protocol that is found under the name

-- there is one and it is not refused, and the text says what it writes
pub record IsRunAnswer (symbols : List Symbol) (name : List ℕ) (tape : List Bool) (found : Option Network) (text : List ℕ) : Type 0 where
  pub network : Network
  pub there : found ≡ Some network
  pub accepted : run_refusal symbols tape found ≡ None
  pub written : text ≡ run_text symbols name tape network

-- it is refused, and the text is the line that says why
pub record IsRunRefusal (symbols : List Symbol) (name : List ℕ) (tape : List Bool) (found : Option Network) (text : List ℕ) : Type 0 where
  pub refusal : ItemRefusal
  pub refused : run_refusal symbols tape found ≡ Some refusal
  pub written : text ≡ item_line name refusal

-- for that of a document
abbrev pub AnswersRun : Document → (name : List ℕ) → (tape : List Bool) → (text : List ℕ) → Type 0
AnswersRun d name tape text = IsRunAnswer d.symbols name tape (network_named d.entries name) text

abbrev pub RefusesRun : Document → (name : List ℕ) → (tape : List Bool) → (text : List ℕ) → Type 0
RefusesRun d name tape text = IsRunRefusal d.symbols name tape (network_named d.entries name) text
