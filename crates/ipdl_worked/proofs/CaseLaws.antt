-- The two protocols of each case are typed, the rule gives the second one, and so they are equal.
use Rattle.std.proofs.Common.{◌≡◌, List, [], ◌∷◌, ◌++◌, refl, arith}
use Rattle.std.proofs.lemmas.List.Elements.{All-nil}
use Rattle.std.specs.Prelude.{is_some}
use Rattle.ipdl_laws.proofs.Refuting.{single_apart}
use Rattle.ipdl_laws.proofs.Sets.{by_test, at_same_channel}
use Rattle.ipdl_laws.specs.Refutations.{one_bit_interface}
use Rattle.ipdl_rules_p.proofs.InstanceLaws.{answer_is_instance}
use Rattle.ipdl_rules_p.proofs.InstanceMeanings.{instance_means}
use Rattle.ipdl_rules_p.specs.Instances.{IsProtocolInstance}
use Rattle.ipdl_rules_p.specs.Refutations.{Pair}
use Rattle.ipdl_rules_r.proofs.InstanceMeanings.{typed_instance_at_place}
use Rattle.ipdl_rules_r.specs.Instances.{IsReactionInstance}
use Rattle.ipdl_term.specs.Channels.{same_channel, has}
use Rattle.ipdl_term.specs.Rules.{Rule}
use Rattle.ipdl_term.specs.Rules as R
use Rattle.ipdl_term.specs.Terms.{Channel, variable}
use Rattle.ipdl_term.specs.Typing.{Scope, scope_of}
use Rattle.ipdl_term.specs.Worked.{a, b, c, m}
use Rattle.ipdl_worked.specs.Cases.{AreEqual, ClosesInterface, HaveInterface, c_fed_into_m, coin_read, coin_masked, drop_before_constant, drop_of_arm, fold_of_stuck, mask_of_input, o, subst_in_arm}

-- two typed sides of a rule are equal
equal_sides : (rule : Rule) (inputs outs : List Channel) (pair : Pair) → IsProtocolInstance rule pair.left pair.right → HaveInterface inputs outs pair → AreEqual inputs outs pair
equal_sides rule inputs outs pair instance typed = instance_means [] _ _ rule pair.left pair.right instance typed.0 typed.1

-- ---- rules at a protocol

pub fold_typed : HaveInterface [] (o ∷ []) fold_of_stuck
fold_typed = (
  record { typed = (omega arith, ((1, refl, refl), (1, refl, refl), single_apart o c refl), refl); writes = λ d. refl },
  record { typed = (1, refl, refl); writes = λ d. refl },
)

pub fold_instance : IsProtocolInstance (R.fold []) fold_of_stuck.left fold_of_stuck.right
fold_instance = answer_is_instance (R.fold []) fold_of_stuck.left fold_of_stuck.right refl

pub fold_equal : AreEqual [] (o ∷ []) fold_of_stuck
fold_equal = equal_sides (R.fold []) [] (o ∷ []) fold_of_stuck fold_instance fold_typed

pub subst_typed : HaveInterface [] (a ∷ b ∷ []) subst_in_arm
subst_typed = (
  record { typed = ((1, refl, refl), (1, refl, (refl, refl, refl)), single_apart a b refl); writes = λ d. refl },
  record { typed = ((1, refl, refl), (1, refl, (refl, refl, refl)), single_apart a b refl); writes = λ d. refl },
)

pub subst_instance : IsProtocolInstance (R.subst (1 ∷ [])) subst_in_arm.left subst_in_arm.right
subst_instance = answer_is_instance (R.subst (1 ∷ [])) subst_in_arm.left subst_in_arm.right refl

pub subst_equal : AreEqual [] (a ∷ b ∷ []) subst_in_arm
subst_equal = equal_sides (R.subst (1 ∷ [])) [] (a ∷ b ∷ []) subst_in_arm subst_instance subst_typed

pub constant_typed : HaveInterface [] (a ∷ b ∷ []) drop_before_constant
constant_typed = (
  record { typed = ((1, refl, refl), (1, refl, (refl, refl)), single_apart a b refl); writes = λ d. refl },
  record { typed = ((1, refl, refl), (1, refl, refl), single_apart a b refl); writes = λ d. refl },
)

pub constant_instance : IsProtocolInstance R.drop drop_before_constant.left drop_before_constant.right
constant_instance = answer_is_instance R.drop drop_before_constant.left drop_before_constant.right refl

pub constant_equal : AreEqual [] (a ∷ b ∷ []) drop_before_constant
constant_equal = equal_sides R.drop [] (a ∷ b ∷ []) drop_before_constant constant_instance constant_typed

pub arm_typed : HaveInterface (m ∷ []) (a ∷ b ∷ []) drop_of_arm
arm_typed = (
  record { typed = ((1, refl, (refl, refl, refl)), (1, refl, (refl, refl)), single_apart a b refl); writes = λ d. refl },
  record { typed = ((1, refl, (refl, refl, refl)), (1, refl, refl), single_apart a b refl); writes = λ d. refl },
)

pub arm_instance : IsProtocolInstance R.drop drop_of_arm.left drop_of_arm.right
arm_instance = answer_is_instance R.drop drop_of_arm.left drop_of_arm.right refl

pub arm_equal : AreEqual (m ∷ []) (a ∷ b ∷ []) drop_of_arm
arm_equal = equal_sides R.drop (m ∷ []) (a ∷ b ∷ []) drop_of_arm arm_instance arm_typed

-- ---- a rule at a reaction

pub mask_typed : HaveInterface (m ∷ []) (c ∷ []) mask_of_input
mask_typed = (
  record { typed = (1, refl, (refl, ((refl, omega arith), (refl, refl)))); writes = λ d. refl },
  record { typed = (1, refl, (refl, ((refl, omega arith), ((refl, refl), refl)))); writes = λ d. refl },
)

pub mask_instance : IsReactionInstance [] (R.mask (variable 1)) coin_read coin_masked
mask_instance = (refl, refl, refl)

pub mask_equal : AreEqual (m ∷ []) (c ∷ []) mask_of_input
mask_equal =
    typed_instance_at_place [] (All-nil _) _ _ mask_of_input.left mask_of_input.right (0 ∷ 1 ∷ []) (R.mask (variable 1)) coin_read coin_masked mask_typed.0 mask_typed.1 refl refl mask_instance

-- all that is visible where m is an input and c an output is written in the context
pub context_closes : ClosesInterface (m ∷ []) (c ∷ []) c_fed_into_m
context_closes = (m_and_c, ((λ d w e. e), (1, refl, refl), single_apart c m refl), written)
  where
    m_and_c : Scope
    m_and_c = let interface = one_bit_interface (m ∷ []) (c ∷ []) in scope_of (interface.inputs ++ interface.outputs)

    written : (d : Channel) → is_some (m_and_c d) ≡ has (c ∷ m ∷ []) d
    written d = by_test (same_channel c d)
        (λ l. at_same_channel (λ z. is_some (m_and_c z) ≡ has (c ∷ m ∷ []) z) c d l refl)
        (λ l. by_test (same_channel m d) (λ k. rw (l, k) refl) (λ k. rw (l, k) refl))
