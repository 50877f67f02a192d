use Rattle.std.proofs.Common.{refl}
use Rattle.ipdl_truth.proofs.Answers.{told_fault, told_none}
use Rattle.ipdl_truth.specs.declared.agreement.TruthFault.TheVariants.{Abstract, Large, TooWide}
use Rattle.ipdl_truth.proofs.agreement.agree.Goals as goal

pub returns-in-Some-clause-abstracts : goal.returns-in-Some-clause-abstracts
returns-in-Some-clause-abstracts c = λ symbol. told_fault _ c.in-Some.fault (Abstract symbol) refl (c.in-Some.ensures.abstracts symbol)

pub returns-in-Some-clause-large : goal.returns-in-Some-clause-large
returns-in-Some-clause-large c = λ bits. told_fault _ c.in-Some.fault (Large bits) refl (c.in-Some.ensures.large bits)

pub returns-in-Some-clause-too_wide : goal.returns-in-Some-clause-too_wide
returns-in-Some-clause-too_wide c = λ bits. told_fault _ c.in-Some.fault (TooWide bits) refl (c.in-Some.ensures.too_wide bits)

pub returns-in-None-clause-abstracts : goal.returns-in-None-clause-abstracts
returns-in-None-clause-abstracts c = λ symbol. told_none c.compare.result (Abstract symbol) c.compare.ensures.err (λ e. cc) (c.in-None.ensures.abstracts symbol)

pub returns-in-None-clause-large : goal.returns-in-None-clause-large
returns-in-None-clause-large c = λ bits. told_none c.compare.result (Large bits) c.compare.ensures.err (λ e. cc) (c.in-None.ensures.large bits)

pub returns-in-None-clause-too_wide : goal.returns-in-None-clause-too_wide
returns-in-None-clause-too_wide c = λ bits. told_none c.compare.result (TooWide bits) c.compare.ensures.err (λ e. cc) (c.in-None.ensures.too_wide bits)
