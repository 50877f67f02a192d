-- The bytes that the call copied are the first of those that were left.
use Rattle.std.proofs.Common.{◌≡◌, ◌+◌, ◌≤◌, ◌++◌, Some, length, take, drop, refl, sym, ap, arith, length-drop}
use Rattle.std.proofs.lemmas.List.{take_rest}
use Rattle.ipdl_io.proofs.Buffers.{take-front, length-front, take-drop-drop}
use Rattle.ipdl_io.proofs.memory.MemSourceSource.read.Goals as goal

pub returns-clause-gives : goal.returns-clause-gives
returns-clause-gives c =
    let source = c.self.inside in
    let bytes = source.bytes.items in
    let left = drop source.given bytes in
    let count = c.min-count.result in
    let rest = drop count c.args.into.now in
    let copied : c.copy_from_slice.new.self ≡ take count left = simp (take_rest, c.deref.ensures.value) at c.copy_from_slice.ensures.after in
    let within : count ≤ length left = omega (arith, length-drop source.given bytes) in
    let front = take-front c.copy_from_slice.new.self rest left count copied within in
    let given : left ≡ take count (c.copy_from_slice.new.self ++ rest) ++ drop (source.given + count) bytes = rw front (sym (take-drop-drop bytes source.given count)) in (
      grind arith,
      length-front c.copy_from_slice.new.self rest left count copied within,
      rw (← c.self.view_is) (ap Some given),
      rw (← c.self.view_is) refl,
    )
