-- The question that the program's record stands for.
use Rattle.ipdl_truth.specs.Questions.{Question, question_of}
use Rattle.ipdl_truth.specs.declared.question.Question.{Question as Held}

abbrev pub asked_of : Held → Question
asked_of q = question_of q.sig.now q.widths.now q.left.now q.right.now q.conditions.now
