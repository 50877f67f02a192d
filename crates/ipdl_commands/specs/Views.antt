-- What the private types of the program stand for.
use Rattle.ipdl_commands.specs.Lines.{ItemRefusal, no_item, open_input, abstract_symbol, short_tape, names_repeat}
use Rattle.ipdl_commands.specs.declared.refusal.Refusal.{Refusal}
use Rattle.ipdl_commands.specs.declared.refusal.Refusal.TheVariants.{NoItem, OpenInput, AbstractSymbol, ShortTape, NamesRepeat}

abbrev pub refusal_of : Refusal → ItemRefusal
refusal_of NoItem = no_item
refusal_of (OpenInput channel) = open_input channel.now
refusal_of (AbstractSymbol symbol) = abstract_symbol symbol.now
refusal_of (ShortTape want got) = short_tape want got
refusal_of (NamesRepeat channel) = names_repeat channel.now
