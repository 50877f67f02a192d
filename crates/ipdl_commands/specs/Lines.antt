-- The lines of the answers about one item.
use Rattle.std.specs.Prelude.{ℕ, Bool, List, [], ◌∷◌, ◌++◌, map, codes}
use Rattle.std.specs.Fmt.{decimal}
use Rattle.ipdl_commands.specs.declared.fault.CommandFault.{CommandFault}
use Rattle.ipdl_commands.specs.declared.fault.CommandFault.TheVariants.{Refused, Memory}
use Rattle.ipdl_printing.specs.Texts.{line, spaced}
use Rattle.ipdl_tree.specs.Spelling.{bit_digit}

-- bits, as they are spelled
abbrev pub literal_text : List Bool → List ℕ
literal_text bits = codes "#" ++ map bit_digit bits

-- why a command on an item is refused
pub data ItemRefusal : Type 0 where
  -- no protocol has the name
  no_item : ItemRefusal
  -- it has inputs, first this one
  open_input : (channel : List ℕ) → ItemRefusal
  -- an abstract symbol occurs, first the one of this name
  abstract_symbol : (symbol : List ℕ) → ItemRefusal
  -- the tape has fewer bits than are wanted
  short_tape : (want got : ℕ) → ItemRefusal
  -- the name of a hidden channel stands for another channel too, first this one
  names_repeat : (channel : List ℕ) → ItemRefusal

-- the words that tell it
abbrev pub refusal_words : ItemRefusal → List (List ℕ)
refusal_words no_item = codes "NoItem" ∷ []
refusal_words (open_input channel) = codes "OpenInput" ∷ channel ∷ []
refusal_words (abstract_symbol symbol) = codes "AbstractSymbol" ∷ symbol ∷ []
refusal_words (short_tape want got) = codes "ShortTape" ∷ decimal want ∷ decimal got ∷ []
refusal_words (names_repeat channel) = codes "NamesRepeat" ∷ channel ∷ []

abbrev pub item_line : (item : List ℕ) → ItemRefusal → List ℕ
item_line item refusal = line (spaced (codes "item" ∷ item ∷ refusal_words refusal))

-- a line that is told is such a line
abbrev pub IfRefused : CommandFault → (List ℕ → Type 0) → Type 0
IfRefused (Refused text) IsLine = IsLine text.items
IfRefused Memory IsLine = Unit {0}
