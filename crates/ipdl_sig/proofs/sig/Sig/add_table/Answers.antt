use Rattle.std.proofs.Common.{List, Bool, subst}
use Rattle.ipdl_sig.specs.Symbols.{table_symbol, IsAdding}
use Rattle.ipdl_sig.proofs.sig.Sig.add_table.Goals as goal

pub returns : goal.returns
returns c =
    subst (λ (values : List (List Bool)). IsAdding c.args.self.now (table_symbol c.args.name c.args.from c.args.to values) c.add.result c.add.new.self) c.from_vec.ensures c.add.ensures
