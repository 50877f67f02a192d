use Rattle.std.proofs.Common.{◌≡◌, ◌++◌, ap₂, ◌∙◌}
use Rattle.ipdl_chain.specs.Views.{others_of, links_of}
use Rattle.ipdl_script.proofs.TrailLists.{trail_links-append}
use Rattle.ipdl_script.proofs.TrailsWithin.{within_appended}
use Rattle.ipdl_script.proofs.trail.extended.Goals as goal

pub returns-clause-links : goal.returns-clause-links
returns-clause-links c =
    let trail = c.args.trail in
    let added = c.args.added in
    let terms : c.from_vec.result ≡ trail.terms ++ added.terms = c.from_vec.ensures ∙ c.in_ok-append.ensures.items ∙ ap₂ (λ one other. one ++ other) c.into_vec-terms.ensures c.into_vec.ensures in
    let marks : c.from_vec-2.result ≡ trail.marks ++ added.marks = c.from_vec-2.ensures ∙ c.in_ok-append-2.ensures.items ∙ ap₂ (λ one other. one ++ other) c.into_vec-marks.ensures c.into_vec-2.ensures in
    ap₂ (λ ms ts. links_of ms (others_of ts)) marks terms ∙ trail_links-append trail.marks added.marks trail.terms added.terms c.requires.trail

pub returns-clause-within : goal.returns-clause-within
returns-clause-within c = λ symbols old printed carried.
    let trail = c.args.trail in
    let added = c.args.added in
    let terms : c.from_vec.result ≡ trail.terms ++ added.terms = c.from_vec.ensures ∙ c.in_ok-append.ensures.items ∙ ap₂ (λ one other. one ++ other) c.into_vec-terms.ensures c.into_vec.ensures in
    let marks : c.from_vec-2.result ≡ trail.marks ++ added.marks = c.from_vec-2.ensures ∙ c.in_ok-append-2.ensures.items ∙ ap₂ (λ one other. one ++ other) c.into_vec-marks.ensures c.into_vec-2.ensures in
    within_appended symbols trail _ added.terms added.marks c.requires.added terms marks old printed carried
