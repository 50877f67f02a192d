use Rattle.std.proofs.Common.{refl}
use Rattle.std.proofs.lemmas.Result.{err_from_is_err_and}
use Rattle.ipdl_tree.specs.Views.{located}
use Rattle.ipdl_tree.proofs.ReaderSteps.{Gives-from_error, Gives-same, Fails-same}
use Rattle.ipdl_tree.proofs.SourceSteps.{read_source-text, read_source-broken, Fails-source}
use Rattle.ipdl_tree.proofs.read.read.Goals as goal

pub returns-in_err-reader : goal.returns-in_err-reader
returns-in_err-reader c =
    let p = err_from_is_err_and c.from_residual.result c.from_residual.ensures.1 in
    let fails = Fails-source c.in_err-reader.field-0.0 c.args.bytes.now c.text_of-text.result.now c.text_of-text.ensures c.text_of-text.utf8 c.in_err-reader.ensures.read in
    Gives-from_error _ _ _ p.0 _ p.1 p.2 fails

pub returns-then-text-bytes : goal.returns-then-text-bytes
returns-then-text-bytes c =
    let e = read_source-broken c.args.bytes.now c.text_of-text.result.now _ c.text_of-text.ensures c.text_of-text.utf8 c.in_ok-reader.ensures.read c.if-text-bytes.true in
    Fails-same c.spell.result _ _ _ c.spell.ensures e refl

pub returns : goal.returns
returns c =
    let e = read_source-text c.args.bytes.now c.text_of-text.result.now _ c.text_of-text.ensures c.text_of-text.utf8 c.in_ok-reader.ensures.read c.if-text-bytes.false in
    Gives-same located c.finish.result _ _ e c.finish.ensures
