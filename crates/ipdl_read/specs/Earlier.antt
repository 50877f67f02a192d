-- What the items that a reader keeps declare.
use Rattle.ipdl_sig.specs.Symbols.{names_of}
use Rattle.ipdl_forms.specs.Earlier.{protocol_names, statement_names}
use Rattle.ipdl_forms.specs.Steps.{Earlier}
use Rattle.ipdl_read.specs.declared.earlier.Earlier.{Earlier as Held}

abbrev pub earlier_of : Held → Earlier
earlier_of held =
    record {
      symbols = names_of held.sig.now;
      protocols = protocol_names held.items.now;
      statements = statement_names held.items.now;
    }
