use Rattle.std.proofs.Common.{rules}
use Rattle.ipdl_sig.proofs.Numbers.{insert_entry-symbol, values_of-push, KeepsSymbols-push}
use Rattle.ipdl_sig.proofs.sig.Sig.add.Goals as goal

pub invariant_of-self : goal.invariant_of-self
invariant_of-self c =
    let more = insert_entry-symbol c.self.inside.symbols c.insert.new.self.entries _ _ c.args.symbol c.self.invariant c.self.view_is c.in_default.ensures.new c.in-Ok.ensures c.in-Ok-insert.ensures.entries in
    KeepsSymbols-push _ _ _ c.args.symbol c.self.invariant c.self.view_is c.in_default.ensures.formed c.in_default.ensures.new c.requires more

pub returns-in-Ok-insert : goal.returns-in-Ok-insert
returns-in-Ok-insert c =
    let more = insert_entry-symbol c.self.inside.symbols c.insert.new.self.entries _ _ c.args.symbol c.self.invariant c.self.view_is c.in_default.ensures.new c.in-Ok.ensures c.in-Ok-insert.ensures.entries in
    let added = values_of-push c.self.inside.symbols.entries _ _ _ c.self.view_is more in record {
      number = search rules;
      ok = added;
      accepted = search rules;
      new = search rules;
      formed = search rules;
      accepts = search rules;
      repeated = search rules;
      refused = search rules;
      err = search rules;
    }
