use Rattle.std.proofs.Common.{◌≡◌, ℕ, ◌++◌, suc, length, vec_len}
use Rattle.ipdl_script.proofs.TrailsWithin.{TermsWithin, MarksWithin}
use Rattle.ipdl_script.specs.Trails.{IsTrailWithin, back_links, trail_first, trail_links}
use Rattle.ipdl_script.proofs.trail.push_back.Given as goal

abbrev pub invariant-loop-mark : goal.invariant-loop-mark
invariant-loop-mark l = record {
  trail : length l.trail.terms ≡ suc (length l.trail.marks);
  paired : length l.terms.items ≡ length l.marks.items;
  first : trail_first l.trail ≡ trail_first l.initial.trail;
  links : trail_links l.trail ++ back_links l.marks.items l.terms.items ≡ trail_links l.initial.trail ++ back_links l.initial.marks.items l.initial.terms.items;
  within : (symbols : ℕ) → IsTrailWithin symbols l.initial.trail → TermsWithin symbols l.initial.terms.items → MarksWithin symbols l.initial.marks.items →
      IsTrailWithin symbols l.trail × TermsWithin symbols l.terms.items × MarksWithin symbols l.marks.items;
}

abbrev pub decreases-loop-mark : goal.decreases-loop-mark
decreases-loop-mark l = vec_len l.marks
