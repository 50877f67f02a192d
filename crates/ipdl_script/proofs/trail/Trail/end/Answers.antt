use Rattle.std.proofs.Common.{◌≡◌, length, get_or, refl, ap, ap₂, ◌∙◌}
use Rattle.ipdl_script.proofs.TrailLists.{end_is}
use Rattle.ipdl_term.specs.Views.{protocol_of}
use Rattle.ipdl_script.proofs.trail.Trail.end.Goals as goal

pub returns : goal.returns
returns c =
    let t = c.index-as_slice-as_slice.result in
    let at : t ≡ get_or c.args.self.now.terms (length c.args.self.now.marks) t =
    c.index-as_slice-as_slice.is ∙ ap₂ (λ terms marks. get_or terms (length marks) t) c.as_slice.ensures c.as_slice-2.ensures in
    ap protocol_of at ∙ end_is c.args.self.now.marks c.args.self.now.terms (length c.args.self.now.marks) t c.requires refl
