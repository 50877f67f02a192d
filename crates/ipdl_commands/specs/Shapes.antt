-- The command `shape`: the shape of a protocol, as a line.
use Rattle.std.specs.Prelude.{◌≡◌, ℕ, List, Option, Some, None, option_map}
use Rattle.ipdl_commands.specs.Lines.{ItemRefusal, no_item, names_repeat, item_line}
use Rattle.ipdl_forms.specs.Documents.{Document}
use Rattle.ipdl_forms.specs.Networks.{Network, network_named}
use Rattle.ipdl_norm.specs.Repeated.{first_repeated_name}
use Rattle.ipdl_norm.specs.Shaped.{shaped}
use Rattle.ipdl_printing.specs.Printing.{protocol_tree}
use Rattle.ipdl_printing.specs.Texts.{line}
use Rattle.ipdl_sig.specs.declared.symbol.Symbol.{Symbol}
use Rattle.ipdl_term.specs.Terms.{Protocol}
use Rattle.ipdl_term.specs.Within.{IsProtocolWithin}
use Rattle.ipdl_tree.specs.Spelling.{tree_text}

-- its symbols are among the first so many, and each variable has a binder
abbrev pub HasBodyWithin : ℕ → Network → Type 0
HasBodyWithin symbols network = IsProtocolWithin symbols network.body

-- no protocol has the name, or a name in it repeats
abbrev pub shape_refusal : Option Network → Option ItemRefusal
shape_refusal None = Some no_item
shape_refusal (Some network) = option_map names_repeat (first_repeated_name network.body)

-- the line of the shape
abbrev pub shape_text : List Symbol → Protocol → List ℕ
shape_text symbols body = line (tree_text (protocol_tree symbols (shaped body)))

-- ---- the two replies, to the protocol that is found under the name

-- there is one and it is not refused, and the text is the line of its shape
pub record IsShapeAnswer (symbols : List Symbol) (found : Option Network) (text : List ℕ) : Type 0 where
  pub network : Network
  pub there : found ≡ Some network
  pub accepted : shape_refusal found ≡ None
  pub written : text ≡ shape_text symbols network.body

-- it is refused, and the text is the line that says why
pub record IsShapeRefusal (name : List ℕ) (found : Option Network) (text : List ℕ) : Type 0 where
  pub refusal : ItemRefusal
  pub refused : shape_refusal found ≡ Some refusal
  pub written : text ≡ item_line name refusal

-- for that of a document
abbrev pub AnswersShape : Document → (name : List ℕ) → (text : List ℕ) → Type 0
AnswersShape d name text = IsShapeAnswer d.symbols (network_named d.entries name) text

abbrev pub RefusesShape : Document → (name : List ℕ) → (text : List ℕ) → Type 0
RefusesShape d name text = IsShapeRefusal name (network_named d.entries name) text
