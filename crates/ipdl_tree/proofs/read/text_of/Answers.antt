use Rattle.std.proofs.Common.{take, sym, ap, ◌∙◌}
use Rattle.std.proofs.Math.Seq.{take-length}
use Rattle.std.proofs.lemmas.Str.{utf8_valid_len-IsUtf8}
use Rattle.ipdl_tree.proofs.read.text_of.Goals as goal

pub returns-in-Ok : goal.returns-in-Ok
returns-in-Ok c =
    let bytes = c.args.bytes.now in
    let p = c.in-Ok.ensures.cases in
    p.0 ∙ sym (take-length bytes) ∙ ap (λ n. take n bytes) (sym (utf8_valid_len-IsUtf8 bytes p.1))
