-- Worked questions, whose answers are computed from the definitions.
use Rattle.std.specs.Prelude.{Bool, true, false, List, [], ◌∷◌, Some, None}
use Rattle.ipdl_term.specs.Interpretations.{Signature}
use Rattle.ipdl_term.specs.Surroundings.{Condition}
use Rattle.ipdl_term.specs.Terms.{Expression, literal, variable, application, exclusive}
use Rattle.ipdl_truth.specs.Questions.{Question}

-- a table that turns one bit round, and an abstract symbol from two bits to one
abbrev pub symbols : Signature
symbols =
    record { from = 1; to = 1; values = Some ((true ∷ []) ∷ (false ∷ []) ∷ []) }
    ∷ record { from = 2; to = 1; values = None } ∷ []

-- one variable of one bit
abbrev pub asked : Expression → Expression → List Condition → Question
asked left right conditions =
    record { sig = symbols; widths = 1 ∷ []; left = left; right = right; conditions = conditions }

-- `#0`, and x with itself
abbrev pub zero_bit : Expression
zero_bit = literal (false ∷ [])

abbrev pub cancelled : Expression
cancelled = exclusive (variable 0) (variable 0)

-- three binders, of which the middle one does not occur
abbrev pub wide : Question
wide =
    record {
      sig = symbols;
      widths = 1 ∷ 7 ∷ 2 ∷ [];
      left = application 1 (variable 0);
      right = application 0 (variable 2);
      conditions = record { test = application 0 (variable 2); value = true } ∷ [];
    }

-- x has this value
abbrev pub has_value : Bool → Condition
has_value b = record { test = variable 0; value = b }
