use Rattle.std.proofs.Common.{sym, subst, inr}
use Rattle.ipdl_top.specs.Runs.{IsVerdict}
use Rattle.ipdl_top.proofs.Accepted.{IsAccepted-replied, IsChecked-accepted, accepted_where_answered}
use Rattle.ipdl_top.proofs.Meanings.{neighbours_of_answered, exact_sides_of_answered, sides_of_answered}
use Rattle.ipdl_top.specs.Meanings.{HasMeantNeighbours, HasEqualSidesIfExact, HasEqualSidesIfTrue}
use Rattle.ipdl_top.proofs.Runs.{IsReplied-calm, IsReplied-verdict, IsRepliedFront-finished, IsPlanned-usage, IsPlanned-over, IsPlanned-within, IsOfSource-replied, of_source, no_usage, no_read_fault, no_memory, write_failed}
use Rattle.ipdl_top.proofs.runner.run.Goals as goal

-- words of no form

pub returns-in-Ok-None-clause-replied : goal.returns-in-Ok-None-clause-replied
returns-in-Ok-None-clause-replied g c =
    let none = rw c.in-Ok-None.field-0-is at c.in-Ok-None.ensures.none in
    λ still calm granted. IsReplied-calm (IsPlanned-usage _ _ none) c.finish.ensures calm

pub returns-in-Ok-None-clause-verdict : goal.returns-in-Ok-None-clause-verdict
returns-in-Ok-None-clause-verdict g c =
    let none = rw c.in-Ok-None.field-0-is at c.in-Ok-None.ensures.none in
    λ verdict. IsReplied-verdict (IsPlanned-usage _ _ none) c.finish.ensures verdict

pub returns-in-Ok-None-clause-write_rose_text : goal.returns-in-Ok-None-clause-write_rose_text
returns-in-Ok-None-clause-write_rose_text g c =
    let none = rw c.in-Ok-None.field-0-is at c.in-Ok-None.ensures.none in
    λ still rose. IsRepliedFront-finished (IsPlanned-usage _ _ none) c.finish.ensures

-- a source of too many bytes

pub returns-in-Err-TooMany-clause-replied : goal.returns-in-Err-TooMany-clause-replied
returns-in-Err-TooMany-clause-replied g c =
    let asked = rw c.in-Ok-Some.field-0-is at c.in-Ok-Some.ensures.form in
    let many = rw c.in-Err-TooMany.field-0-is at c.in-Err-TooMany.ensures.stopped in
    λ still calm granted. IsReplied-calm (IsPlanned-over _ _ _ _ asked many.0) c.finish-in-Err-TooMany.ensures calm

pub returns-in-Err-TooMany-clause-verdict : goal.returns-in-Err-TooMany-clause-verdict
returns-in-Err-TooMany-clause-verdict g c =
    let asked = rw c.in-Ok-Some.field-0-is at c.in-Ok-Some.ensures.form in
    let many = rw c.in-Err-TooMany.field-0-is at c.in-Err-TooMany.ensures.stopped in
    λ verdict. IsReplied-verdict (IsPlanned-over _ _ _ _ asked many.0) c.finish-in-Err-TooMany.ensures verdict

pub returns-in-Err-TooMany-clause-write_rose_text : goal.returns-in-Err-TooMany-clause-write_rose_text
returns-in-Err-TooMany-clause-write_rose_text g c =
    let asked = rw c.in-Ok-Some.field-0-is at c.in-Ok-Some.ensures.form in
    let many = rw c.in-Err-TooMany.field-0-is at c.in-Err-TooMany.ensures.stopped in
    λ still rose. IsRepliedFront-finished (IsPlanned-over _ _ _ _ asked many.0) c.finish-in-Err-TooMany.ensures

pub returns-in-Err-TooMany-clause-complete : goal.returns-in-Err-TooMany-clause-complete
returns-in-Err-TooMany-clause-complete g c =
    let asked = rw c.in-Ok-Some.field-0-is at c.in-Ok-Some.ensures.form in
    let many = rw c.in-Err-TooMany.field-0-is at c.in-Err-TooMany.ensures.stopped in
    λ request bytes t d text answered form told still calm granted.
    accepted_where_answered request _ bytes t d text _ _ _ _ answered form told
    (IsReplied-calm (IsPlanned-over _ _ _ _ asked many.0) c.finish-in-Err-TooMany.ensures calm)

-- a source read to its end

pub returns-in-Ok-reply_to-clause-replied : goal.returns-in-Ok-reply_to-clause-replied
returns-in-Ok-reply_to-clause-replied g c =
    let asked = rw c.in-Ok-Some.field-0-is at c.in-Ok-Some.ensures.form in
    let reply = rw c.as_slice.ensures.value at c.in-Ok-reply_to.ensures in
    let plan = IsPlanned-within _ _ _ _ _ _ _ asked c.in-Ok.ensures.whole.1 c.in-Ok.ensures.whole.2 reply in
    let finished = rw c.as_slice-in-Ok-reply_to.ensures.value at c.finish-in-Ok-reply_to.ensures in
    λ still calm granted. IsReplied-calm plan finished calm

pub returns-in-Ok-reply_to-clause-verdict : goal.returns-in-Ok-reply_to-clause-verdict
returns-in-Ok-reply_to-clause-verdict g c =
    let asked = rw c.in-Ok-Some.field-0-is at c.in-Ok-Some.ensures.form in
    let reply = rw c.as_slice.ensures.value at c.in-Ok-reply_to.ensures in
    let plan = IsPlanned-within _ _ _ _ _ _ _ asked c.in-Ok.ensures.whole.1 c.in-Ok.ensures.whole.2 reply in
    let finished = rw c.as_slice-in-Ok-reply_to.ensures.value at c.finish-in-Ok-reply_to.ensures in
    λ verdict. IsReplied-verdict plan finished verdict

pub returns-in-Ok-reply_to-clause-write_rose_text : goal.returns-in-Ok-reply_to-clause-write_rose_text
returns-in-Ok-reply_to-clause-write_rose_text g c =
    let asked = rw c.in-Ok-Some.field-0-is at c.in-Ok-Some.ensures.form in
    let reply = rw c.as_slice.ensures.value at c.in-Ok-reply_to.ensures in
    let plan = IsPlanned-within _ _ _ _ _ _ _ asked c.in-Ok.ensures.whole.1 c.in-Ok.ensures.whole.2 reply in
    let finished = rw c.as_slice-in-Ok-reply_to.ensures.value at c.finish-in-Ok-reply_to.ensures in
    λ still rose. IsRepliedFront-finished plan finished

pub returns-in-Ok-reply_to-clause-over_cause : goal.returns-in-Ok-reply_to-clause-over_cause
returns-in-Ok-reply_to-clause-over_cause g c = λ over. inr c.in-Ok.ensures.whole.2

pub returns-in-Ok-reply_to-clause-usage_cause : goal.returns-in-Ok-reply_to-clause-usage_cause
returns-in-Ok-reply_to-clause-usage_cause g c = λ usage. absurd (no_usage (of_source (IsOfSource-replied _ _ _ c.in-Ok-reply_to.ensures) c.finish-in-Ok-reply_to.ensures) usage)

pub returns-in-Ok-reply_to-clause-read_cause : goal.returns-in-Ok-reply_to-clause-read_cause
returns-in-Ok-reply_to-clause-read_cause g c = λ fault. absurd (no_read_fault (of_source (IsOfSource-replied _ _ _ c.in-Ok-reply_to.ensures) c.finish-in-Ok-reply_to.ensures) fault)

pub returns-in-Ok-reply_to-clause-write_cause : goal.returns-in-Ok-reply_to-clause-write_cause
returns-in-Ok-reply_to-clause-write_cause g c = λ fault. write_failed (of_source (IsOfSource-replied _ _ _ c.in-Ok-reply_to.ensures) c.finish-in-Ok-reply_to.ensures) fault

pub returns-in-Ok-reply_to-clause-memory_taken : goal.returns-in-Ok-reply_to-clause-memory_taken
returns-in-Ok-reply_to-clause-memory_taken g c = λ memory. absurd (no_memory (of_source (IsOfSource-replied _ _ _ c.in-Ok-reply_to.ensures) c.finish-in-Ok-reply_to.ensures) memory)

pub returns-in-Ok-reply_to-clause-memory_faults : goal.returns-in-Ok-reply_to-clause-memory_faults
returns-in-Ok-reply_to-clause-memory_faults g c = λ memory. absurd (no_memory (of_source (IsOfSource-replied _ _ _ c.in-Ok-reply_to.ensures) c.finish-in-Ok-reply_to.ensures) memory)

pub returns-in-Ok-reply_to-clause-accepted : goal.returns-in-Ok-reply_to-clause-accepted
returns-in-Ok-reply_to-clause-accepted g c =
    let asked = rw c.in-Ok-Some.field-0-is at c.in-Ok-Some.ensures.form in
    let reply = rw c.as_slice.ensures.value at c.in-Ok-reply_to.ensures in
    let plan = IsPlanned-within _ _ _ _ _ _ _ asked c.in-Ok.ensures.whole.1 c.in-Ok.ensures.whole.2 reply in
    let finished = rw c.as_slice-in-Ok-reply_to.ensures.value at c.finish-in-Ok-reply_to.ensures in
    λ accepted. IsAccepted-replied _ _ _ _ _ _ asked (IsReplied-verdict plan finished (subst IsVerdict (sym accepted) tt)) accepted

pub returns-in-Ok-reply_to-clause-complete : goal.returns-in-Ok-reply_to-clause-complete
returns-in-Ok-reply_to-clause-complete g c =
    let asked = rw c.in-Ok-Some.field-0-is at c.in-Ok-Some.ensures.form in
    let reply = rw c.as_slice.ensures.value at c.in-Ok-reply_to.ensures in
    let plan = IsPlanned-within _ _ _ _ _ _ _ asked c.in-Ok.ensures.whole.1 c.in-Ok.ensures.whole.2 reply in
    let finished = rw c.as_slice-in-Ok-reply_to.ensures.value at c.finish-in-Ok-reply_to.ensures in
    λ request bytes t d text answered form told still calm granted.
    accepted_where_answered request _ bytes t d text _ _ _ _ answered form told (IsReplied-calm plan finished calm)

pub returns-in-Ok-reply_to-clause-neighbours_mean : goal.returns-in-Ok-reply_to-clause-neighbours_mean
returns-in-Ok-reply_to-clause-neighbours_mean g c =
    let asked = rw c.in-Ok-Some.field-0-is at c.in-Ok-Some.ensures.form in
    let reply = rw c.as_slice.ensures.value at c.in-Ok-reply_to.ensures in
    let plan = IsPlanned-within _ _ _ _ _ _ _ asked c.in-Ok.ensures.whole.1 c.in-Ok.ensures.whole.2 reply in
    let finished = rw c.as_slice-in-Ok-reply_to.ensures.value at c.finish-in-Ok-reply_to.ensures in
    λ accepted. IsChecked-accepted HasMeantNeighbours neighbours_of_answered _ _ _ _
    (IsAccepted-replied _ _ _ _ _ _ asked (IsReplied-verdict plan finished (subst IsVerdict (sym accepted) tt)) accepted)

pub returns-in-Ok-reply_to-clause-exact_sides_are_equal : goal.returns-in-Ok-reply_to-clause-exact_sides_are_equal
returns-in-Ok-reply_to-clause-exact_sides_are_equal g c =
    let asked = rw c.in-Ok-Some.field-0-is at c.in-Ok-Some.ensures.form in
    let reply = rw c.as_slice.ensures.value at c.in-Ok-reply_to.ensures in
    let plan = IsPlanned-within _ _ _ _ _ _ _ asked c.in-Ok.ensures.whole.1 c.in-Ok.ensures.whole.2 reply in
    let finished = rw c.as_slice-in-Ok-reply_to.ensures.value at c.finish-in-Ok-reply_to.ensures in
    λ accepted. IsChecked-accepted HasEqualSidesIfExact exact_sides_of_answered _ _ _ _
    (IsAccepted-replied _ _ _ _ _ _ asked (IsReplied-verdict plan finished (subst IsVerdict (sym accepted) tt)) accepted)

pub returns-in-Ok-reply_to-clause-sides_are_equal : goal.returns-in-Ok-reply_to-clause-sides_are_equal
returns-in-Ok-reply_to-clause-sides_are_equal g c =
    let asked = rw c.in-Ok-Some.field-0-is at c.in-Ok-Some.ensures.form in
    let reply = rw c.as_slice.ensures.value at c.in-Ok-reply_to.ensures in
    let plan = IsPlanned-within _ _ _ _ _ _ _ asked c.in-Ok.ensures.whole.1 c.in-Ok.ensures.whole.2 reply in
    let finished = rw c.as_slice-in-Ok-reply_to.ensures.value at c.finish-in-Ok-reply_to.ensures in
    λ accepted. IsChecked-accepted HasEqualSidesIfTrue sides_of_answered _ _ _ _
    (IsAccepted-replied _ _ _ _ _ _ asked (IsReplied-verdict plan finished (subst IsVerdict (sym accepted) tt)) accepted)
