-- Each side condition that typing alone does not ask is needed: the two sides, assigned to channel a, are typed, and one of
-- them writes 1 on more tapes.
use Rattle.std.proofs.Common.{◌≡◌, ℕ, ◌≤◌, false, List, [], ◌∷◌, refl, arith}
use Rattle.std.specs.Prelude.{nat_eq}
use Rattle.ipdl_base.specs.Bits.{bits_of}
use Rattle.ipdl_laws.proofs.Refuting.{apart_in_silence}
use Rattle.ipdl_laws.specs.Closings.{fed_interface, silent_feed, zero_interpretation}
use Rattle.ipdl_laws.specs.Refutations.{one_bit_interface}
use Rattle.ipdl_rules_r.proofs.TableLaws.{told_are_different}
use Rattle.ipdl_rules_r.specs.Refutations.{Pair, AreApartOnA, IsRefutedWithout, abstract_symbol, again_of_a_flip, again_of_a_use, again_of_another_part, constant_table, dropr_of_a_read, dropr_of_a_use, ifsame_of_other_arms, mask_of_itself, perm_of_a_bit, perm_of_a_first_bit, swap_of_a_use, widened_bits, widening_table, x0}
use Rattle.ipdl_rules_r.specs.Tables.{AreDifferent}
use Rattle.ipdl_term.specs.Contexts.{plugged}
use Rattle.ipdl_term.specs.Counts.{history_count}
use Rattle.ipdl_term.specs.Interpretations.{Signature, Interpretation, Interprets}
use Rattle.ipdl_term.specs.Protocols.{coins}
use Rattle.ipdl_term.specs.Rules as R
use Rattle.ipdl_term.specs.Terms.{Channel, Protocol, Reaction, assignment}
use Rattle.ipdl_term.specs.Typing.{HasInterface}
use Rattle.ipdl_term.specs.Worked.{a, m, one, written_alone}

-- an assignment to a where nothing is written on the inputs
abbrev alone_on_a : (inputs : List Channel) → Reaction → Protocol
alone_on_a inputs r = plugged (fed_interface silent_feed (one_bit_interface inputs (a ∷ []))) (assignment a r)

-- on how many tapes of n bits it writes 1 and nothing else is written
abbrev ones : Interpretation → (inputs : List Channel) → (n : ℕ) → Reaction → ℕ
ones J inputs n r = history_count J (alone_on_a inputs r) n (written_alone a one)

-- two reactions that give 1 on x and on y tapes of n bits
apart_on_a : (sig : Signature) (J : Interpretation) → Interprets sig J → (inputs : List Channel) (pair : Pair) →
    HasInterface sig (one_bit_interface inputs (a ∷ [])) (assignment a pair.left) → HasInterface sig (one_bit_interface inputs (a ∷ [])) (assignment a pair.right) →
    (n x y : ℕ) → coins (alone_on_a inputs pair.left) ≤ n → coins (alone_on_a inputs pair.right) ≤ n → ones J inputs n pair.left ≡ x → ones J inputs n pair.right ≡ y → nat_eq x y ≡ false → AreApartOnA sig inputs pair
apart_on_a sig J interprets inputs pair left right n x y h k e l differ =
    apart_in_silence sig J interprets (one_bit_interface inputs (a ∷ [])) (assignment a pair.left) (assignment a pair.right) left right n (written_alone a one) x y h k e l differ

-- ---- values that are used

pub refuted_swap_of_a_use : IsRefutedWithout 1 [] R.swap [] swap_of_a_use
refuted_swap_of_a_use = record {
  fails = refl;
  otherwise = refl;
  apart = apart_on_a [] [] tt [] swap_of_a_use
      (record { typed = (1, refl, (refl, ((2, (1, 1, refl, refl, refl, omega arith), omega arith, refl), refl))); writes = λ d. refl })
      (record { typed = (1, refl, ((1, (0, 1, refl, refl, refl, omega arith), omega arith, refl), (refl, refl))); writes = λ d. refl })
      0 1 0 (omega arith) (omega arith) refl refl refl;
}

pub refuted_dropr_of_a_use : IsRefutedWithout 1 [] R.dropr [] dropr_of_a_use
refuted_dropr_of_a_use = record {
  fails = refl;
  otherwise = refl;
  apart = apart_on_a [] [] tt [] dropr_of_a_use
      (record { typed = (1, refl, (refl, (2, (1, 1, refl, refl, refl, omega arith), omega arith, refl))); writes = λ d. refl })
      (record { typed = (1, refl, (1, (0, 1, refl, refl, refl, omega arith), omega arith, refl)); writes = λ d. refl })
      0 1 0 (omega arith) (omega arith) refl refl refl;
}

pub refuted_again_of_a_use : IsRefutedWithout 1 [] R.again [] again_of_a_use
refuted_again_of_a_use = record {
  fails = refl;
  otherwise = refl;
  apart = apart_on_a [] [] tt [] again_of_a_use
      (record { typed = (1, refl, ((1, (0, 1, refl, refl, refl, omega arith), omega arith, refl), ((2, (1, 1, refl, refl, refl, omega arith), omega arith, refl), refl))); writes = λ d. refl })
      (record { typed = (1, refl, ((1, (0, 1, refl, refl, refl, omega arith), omega arith, refl), refl)); writes = λ d. refl })
      0 0 1 (omega arith) (omega arith) refl refl refl;
}

-- ---- reads, flips and other parts

pub refuted_dropr_of_a_read : IsRefutedWithout 2 [] R.dropr (m ∷ []) dropr_of_a_read
refuted_dropr_of_a_read = record {
  fails = refl;
  otherwise = refl;
  apart = apart_on_a [] [] tt (m ∷ []) dropr_of_a_read
      (record { typed = (1, refl, (refl, refl)); writes = λ d. refl })
      (record { typed = (1, refl, refl); writes = λ d. refl })
      0 0 1 (omega arith) (omega arith) refl refl refl;
}

pub refuted_again_of_another_part : IsRefutedWithout 2 [] R.again [] again_of_another_part
refuted_again_of_another_part = record {
  fails = refl;
  otherwise = refl;
  apart = apart_on_a [] [] tt [] again_of_another_part
      (record { typed = (1, refl, (refl, (refl, refl))); writes = λ d. refl })
      (record { typed = (1, refl, (refl, refl)); writes = λ d. refl })
      0 0 1 (omega arith) (omega arith) refl refl refl;
}

pub refuted_again_of_a_flip : IsRefutedWithout 3 [] R.again [] again_of_a_flip
refuted_again_of_a_flip = record {
  fails = refl;
  otherwise = refl;
  apart = apart_on_a [] [] tt [] again_of_a_flip
      (record { typed = (1, refl, ((refl, omega arith), ((refl, omega arith), (refl, refl)))); writes = λ d. refl })
      (record { typed = (1, refl, ((refl, omega arith), (refl, refl))); writes = λ d. refl })
      2 2 0 (omega arith) (omega arith) refl refl refl;
}

pub refuted_ifsame_of_other_arms : IsRefutedWithout 1 [] R.ifsame [] ifsame_of_other_arms
refuted_ifsame_of_other_arms = record {
  fails = refl;
  otherwise = refl;
  apart = apart_on_a [] [] tt [] ifsame_of_other_arms
      (record { typed = (1, refl, (refl, refl, refl)); writes = λ d. refl })
      (record { typed = (1, refl, refl); writes = λ d. refl })
      0 0 1 (omega arith) (omega arith) refl refl refl;
}

-- ---- fair bits

pub refuted_mask_of_itself : IsRefutedWithout 1 [] (R.mask x0) [] mask_of_itself
refuted_mask_of_itself = record {
  fails = refl;
  otherwise = refl;
  apart = apart_on_a [] [] tt [] mask_of_itself
      (record { typed = (1, refl, ((refl, omega arith), refl)); writes = λ d. refl })
      (record { typed = (1, refl, ((refl, omega arith), (refl, refl))); writes = λ d. refl })
      1 1 0 (omega arith) (omega arith) refl refl refl;
}

pub apart_under_abstract_symbol : AreApartOnA (abstract_symbol ∷ []) [] perm_of_a_bit
apart_under_abstract_symbol =
    apart_on_a (abstract_symbol ∷ []) (zero_interpretation (abstract_symbol ∷ [])) (record { from = refl; to = refl; entries = tt; table = tt }, tt) [] perm_of_a_bit
    (record { typed = (1, refl, ((refl, omega arith), refl)); writes = λ d. refl })
    (record { typed = (1, refl, ((refl, omega arith), (abstract_symbol, refl, refl, refl))); writes = λ d. refl })
    1 1 0 (omega arith) (omega arith) refl refl refl

pub widened_are_different : AreDifferent widened_bits
widened_are_different = told_are_different widened_bits refl

pub apart_under_widening_table : AreApartOnA (widening_table ∷ []) [] perm_of_a_first_bit
unfolding bits_of
apart_under_widening_table =
    apart_on_a (widening_table ∷ []) (zero_interpretation (widening_table ∷ [])) (record { from = refl; to = refl; entries = (refl, refl, (refl, refl, tt)); table = refl }, tt) [] perm_of_a_first_bit
    (record { typed = (1, refl, ((refl, omega arith), (1, refl, omega arith, refl))); writes = λ d. refl })
    (record { typed = (1, refl, ((refl, omega arith), (2, (widening_table, refl, refl, refl), omega arith, refl))); writes = λ d. refl })
    1 1 0 (omega arith) (omega arith) refl refl refl

pub refuted_perm_of_a_bit : IsRefutedWithout 2 (constant_table ∷ []) (R.perm 0) [] perm_of_a_bit
unfolding bits_of
refuted_perm_of_a_bit = record {
  fails = refl;
  otherwise = refl;
  apart = apart_on_a (constant_table ∷ []) (zero_interpretation (constant_table ∷ [])) (record { from = refl; to = refl; entries = (refl, refl, (refl, refl, tt)); table = refl }, tt) [] perm_of_a_bit
      (record { typed = (1, refl, ((refl, omega arith), refl)); writes = λ d. refl })
      (record { typed = (1, refl, ((refl, omega arith), (constant_table, refl, refl, refl))); writes = λ d. refl })
      1 1 0 (omega arith) (omega arith) refl refl refl;
}
