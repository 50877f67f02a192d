use Rattle.std.proofs.Common.{◌≡◌, length, ap, ◌∙◌, subst}
use Rattle.std.proofs.lemmas.List.{length-map}
use Rattle.ipdl_script.proofs.Theorems.{trail_is_kept}
use Rattle.ipdl_script.specs.Steps.{Setting}
use Rattle.ipdl_script.specs.Trails.{IsTrailWithin}
use Rattle.ipdl_script.specs.Views.{setting_of}
use Rattle.ipdl_typing.specs.Signatures.{symbol_of}
use Rattle.ipdl_script.proofs.theorem.check_theorem.Goals as goal

pub returns-clause-kept : goal.returns-clause-kept
returns-clause-kept c =
    let symbols = c.args.book.now.document.now.sig in
    let trail = c.in_ok-trail.trail in
    let many : length (setting_of c.setting_with-setting.result).sig ≡ length symbols = ap (λ (x : Setting). length x.sig) c.setting_with-setting.ensures.value ∙ length-map symbols symbol_of in
    let made = c.in_ok-named.ensures in
    trail_is_kept (length symbols) trail c.in_ok-named.field-0 made.terms made.marks (subst (λ n. IsTrailWithin n trail) many c.in_ok-trail.ensures.within) made.hidden
