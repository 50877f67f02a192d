-- The tests of a new whole term against its counts, and what passes them.
use Rattle.std.proofs.Common.{◌≡◌, ℕ, ◌<◌, ◌≤◌, nat_le, true, false, Some, refl, arith}
use Rattle.std.proofs.lemmas.Bool.{leb-true}
use Rattle.ipdl_base.specs.declared.limit.Limit.{Limit}
use Rattle.ipdl_cursor.proofs.PartKinds.{protocol_or-term_with, protocol_nodes-term_with}
use Rattle.ipdl_script.proofs.StepTests.{limit_test-kept, limit_is_kept}
use Rattle.ipdl_script.specs.Steps.{limit_test, over, refused_unless}

pub ruleset whole_terms = (protocol_or-term_with, protocol_nodes-term_with)

-- a count that is too large is told
pub limit_test-over : (limit : Limit) (most count : ℕ) → most < count → limit_test limit most count ≡ Some (over limit)
limit_test-over limit most count h = told (nat_le count most) (leb-true count most)
  where
    told : (b : _) → (b ≡ true → count ≤ most) → refused_unless b (over limit) ≡ Some (over limit)
    told true k = absurd (let le = k refl in omega arith)
    told false k = refl

pub ruleset limit_tests = (limit_test-kept, limit_test-over)
