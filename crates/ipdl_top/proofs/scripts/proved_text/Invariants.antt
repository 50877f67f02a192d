use Rattle.std.proofs.Common.{◌≡◌, ◌≤◌, length, map}
use Rattle.std.specs.Prelude.{All}
use Rattle.ipdl_base.specs.Limits.{limit_number}
use Rattle.ipdl_base.specs.declared.limit.Limit.TheVariants.{Chain}
use Rattle.ipdl_script.specs.Ready.{neighbours_in}
use Rattle.ipdl_script.specs.Views.{proved_of}
use Rattle.ipdl_uses.specs.Views.{IsKept}
use Rattle.ipdl_top.proofs.Theorems.{IsDone}
use Rattle.ipdl_top.proofs.scripts.proved_text.Given as goal

-- the items so far are not refused; their chains are in the book, and written
abbrev pub invariant-loop-item : goal.invariant-loop-item
invariant-loop-item l = record {
  document : l.book.document.now ≡ l.document;
  done : IsDone l.document l.item-index (map proved_of l.book.chains) l.neighbours l.text.items;
  held : neighbours_in l.book.chains ≡ l.neighbours;
  short : l.neighbours ≤ limit_number Chain;
  kept : All (IsKept (length l.book.document.now.sig)) l.book.chains;
}
