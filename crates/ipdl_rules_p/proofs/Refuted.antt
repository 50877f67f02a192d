-- Each side condition that typing alone does not ask is needed: the two sides are typed, and a history comes on more tapes
-- with one of them. In most cases the inputs are never written.
use Rattle.std.proofs.Common.{◌≡◌, ℕ, ◌≤◌, true, false, List, [], ◌∷◌, refl, sym, ◌∙◌, arith}
use Rattle.std.proofs.lemmas.Bool.{or_right}
use Rattle.std.specs.Prelude.{nat_eq}
use Rattle.ipdl_laws.proofs.Refuting.{apart_in_silence, apart_with_zeros, single_apart}
use Rattle.ipdl_laws.proofs.Sets.{by_test, not_both}
use Rattle.ipdl_laws.specs.Alike.{Alike}
use Rattle.ipdl_laws.specs.Closings.{fed_interface, silent_feed}
use Rattle.ipdl_laws.specs.Refutations.{AreToldApart, one_bit_interface}
use Rattle.ipdl_rules_p.specs.Refutations.{Pair, IsRefutedWithout, absorb_of_an_output, diverge_of_an_arm, drop_before_an_arm, drop_of_a_use, fold_of_an_own_read, fold_of_two_reads, rename_to_a_free_name, rename_to_a_hidden_name, scope_of_a_free_channel, subst_of_a_flip, subsume_beside_another, subsume_of_an_arm}
use Rattle.ipdl_term.proofs.ChannelSets.{same_channel-itself, has-union}
use Rattle.ipdl_term.specs.Channels.{has, outputs}
use Rattle.ipdl_term.specs.Contexts.{plugged}
use Rattle.ipdl_term.specs.Counts.{History, history_count}
use Rattle.ipdl_term.specs.Equality.{Equal}
use Rattle.ipdl_term.specs.Interpretations.{Signature, Interpretation}
use Rattle.ipdl_term.specs.Protocols.{coins}
use Rattle.ipdl_term.specs.Rules as R
use Rattle.ipdl_term.specs.Terms.{Channel, Protocol, parallel}
use Rattle.ipdl_term.specs.Typing.{Scope, HasInterface}
use Rattle.ipdl_term.specs.Worked.{a, b, c, k, m, one, zero_bit, written_alone}

-- a protocol where nothing is written on the inputs
abbrev silenced : (inputs outs : List Channel) → Protocol → Protocol
silenced inputs outs p = plugged (fed_interface silent_feed (one_bit_interface inputs outs)) p

-- two protocols of which the history then comes on x and on y tapes of n bits
apart_by : (inputs outs : List Channel) (pair : Pair) (n : ℕ) (h : History) (x y : ℕ) →
    HasInterface [] (one_bit_interface inputs outs) pair.left → HasInterface [] (one_bit_interface inputs outs) pair.right →
    coins (silenced inputs outs pair.left) ≤ n → coins (silenced inputs outs pair.right) ≤ n →
    history_count [] (silenced inputs outs pair.left) n h ≡ x → history_count [] (silenced inputs outs pair.right) n h ≡ y → nat_eq x y ≡ false →
    AreToldApart [] (one_bit_interface inputs outs) pair.left pair.right
apart_by inputs outs pair n h x y left right k l d e differ =
    apart_in_silence [] [] tt (one_bit_interface inputs outs) pair.left pair.right left right n h x y k l d e differ

-- ---- hidden channels

pub refuted_scope_of_a_free_channel : IsRefutedWithout 1 R.scope (c ∷ []) (a ∷ []) scope_of_a_free_channel
refuted_scope_of_a_free_channel = record {
  fails = refl;
  otherwise = refl;
  apart = apart_by (c ∷ []) (a ∷ []) scope_of_a_free_channel 0 (written_alone a one) 0 1
      (record { typed = ((1, refl, refl), (omega arith, (1, refl, refl), refl), λ d h. refl); writes = λ d. refl })
      (record { typed = (omega arith, ((1, refl, refl), (1, refl, refl), single_apart a c refl), refl); writes = λ d. refl })
      (omega arith) (omega arith) refl refl refl;
}

pub refuted_rename_to_a_free_name : IsRefutedWithout 1 (R.rename k) (k ∷ []) (a ∷ []) rename_to_a_free_name
refuted_rename_to_a_free_name = record {
  fails = refl;
  otherwise = refl;
  apart = apart_by (k ∷ []) (a ∷ []) rename_to_a_free_name 0 (written_alone a one) 0 1
      (record { typed = (omega arith, ((1, refl, refl), (1, refl, refl), single_apart c a refl), refl); writes = λ d. refl })
      (record { typed = (omega arith, ((1, refl, refl), (1, refl, refl), single_apart k a refl), refl); writes = λ d. refl })
      (omega arith) (omega arith) refl refl refl;
}

pub refuted_rename_to_a_hidden_name : IsRefutedWithout 1 (R.rename k) [] (a ∷ []) rename_to_a_hidden_name
refuted_rename_to_a_hidden_name = record {
  fails = refl;
  otherwise = refl;
  apart = apart_by [] (a ∷ []) rename_to_a_hidden_name 0 (written_alone a one) 1 0
      (record { typed = (omega arith, ((1, refl, refl), (omega arith, ((1, refl, refl), (1, refl, refl), single_apart k a refl), refl), single_apart c a refl), refl); writes = λ d. refl })
      (record { typed = (omega arith, ((1, refl, refl), (omega arith, ((1, refl, refl), (1, refl, refl), single_apart k a refl), refl), single_apart k a refl), refl); writes = λ d. refl })
      (omega arith) (omega arith) refl refl refl;
}

pub absorb_not_alike : (J : Interpretation) (scope : Scope) → Alike J scope absorb_of_an_output.left absorb_of_an_output.right → ⊥
absorb_not_alike J scope alike = let e : true ≡ false = alike.same_outputs a in cc

-- a list that has no channel is empty
none_in : (cs : List Channel) → ((d : Channel) → has cs d ≡ false) → cs ≡ []
none_in [] h = refl
none_in (d ∷ cs) h = absurd (not_both (has (d ∷ cs) d) (rw (same_channel-itself d) refl) (h d))

-- a part that may equally be left out writes nothing
pub absorbed_writes_nothing : (sig : Signature) (scope : Scope) (written : List Channel) (p q : Protocol) → Equal sig scope written (parallel p q) p → outputs q ≡ []
absorbed_writes_nothing sig scope written p q equal = none_in (outputs q) (λ d. by_test (has (outputs q) d)
    (λ e.
    let both : has (outputs (parallel p q)) d ≡ true = has-union (outputs p) (outputs q) d ∙ or_right (has (outputs p) d) (has (outputs q) d) e in
    let first : has (outputs p) d ≡ true = equal.right.writes d ∙ sym (equal.left.writes d) ∙ both in
    equal.left.typed.2 d first)
    (λ e. e))

pub refuted_fold_of_two_reads : IsRefutedWithout 1 (R.fold (0 ∷ [])) (c ∷ []) (a ∷ []) fold_of_two_reads
refuted_fold_of_two_reads = record {
  fails = refl;
  otherwise = refl;
  apart = apart_by (c ∷ []) (a ∷ []) fold_of_two_reads 0 (written_alone a one) 1 0
      (record { typed = (omega arith, ((1, refl, (refl, refl)), (1, refl, refl), single_apart a c refl), refl); writes = λ d. refl })
      (record { typed = (1, refl, (refl, refl)); writes = λ d. refl })
      (omega arith) (omega arith) refl refl refl;
}

-- where 0 is written on c outside
pub refuted_fold_of_an_own_read : IsRefutedWithout 2 (R.fold []) (c ∷ []) (a ∷ []) fold_of_an_own_read
refuted_fold_of_an_own_read = record {
  fails = refl;
  otherwise = refl;
  apart = apart_with_zeros [] [] tt (one_bit_interface (c ∷ []) (a ∷ [])) fold_of_an_own_read.left fold_of_an_own_read.right
      (record { typed = (omega arith, ((1, refl, refl), (1, refl, refl), single_apart a c refl), refl); writes = λ d. refl })
      (record { typed = (1, refl, refl); writes = λ d. refl })
      0 ((a, zero_bit) ∷ (c, zero_bit) ∷ []) 0 1 (omega arith) (omega arith) refl refl refl;
}

-- ---- two assignments

pub refuted_subst_of_a_flip : IsRefutedWithout 1 (R.subst []) [] (a ∷ b ∷ []) subst_of_a_flip
refuted_subst_of_a_flip = record {
  fails = refl;
  otherwise = refl;
  apart = apart_by [] (a ∷ b ∷ []) subst_of_a_flip 2 ((a, one) ∷ (b, zero_bit) ∷ []) 0 1
      (record { typed = ((1, refl, (refl, omega arith)), (1, refl, refl), single_apart a b refl); writes = λ d. refl })
      (record { typed = ((1, refl, (refl, omega arith)), (1, refl, (refl, omega arith)), single_apart a b refl); writes = λ d. refl })
      (omega arith) (omega arith) refl refl refl;
}

pub refuted_drop_of_a_use : IsRefutedWithout 1 R.drop [] (a ∷ b ∷ []) drop_of_a_use
refuted_drop_of_a_use = record {
  fails = refl;
  otherwise = refl;
  apart = apart_by [] (a ∷ b ∷ []) drop_of_a_use 0 ((a, one) ∷ (b, one) ∷ []) 1 0
      (record { typed = ((1, refl, refl), (1, refl, (refl, (2, (1, 1, refl, refl, refl, omega arith), omega arith, refl))), single_apart a b refl); writes = λ d. refl })
      (record { typed = ((1, refl, refl), (1, refl, (1, (0, 1, refl, refl, refl, omega arith), omega arith, refl)), single_apart a b refl); writes = λ d. refl })
      (omega arith) (omega arith) refl refl refl;
}

pub refuted_drop_before_an_arm : IsRefutedWithout 2 R.drop (m ∷ []) (a ∷ b ∷ []) drop_before_an_arm
refuted_drop_before_an_arm = record {
  fails = refl;
  otherwise = refl;
  apart = apart_by (m ∷ []) (a ∷ b ∷ []) drop_before_an_arm 0 (written_alone b one) 0 1
      (record { typed = ((1, refl, refl), (1, refl, (refl, (refl, refl, refl))), single_apart a b refl); writes = λ d. refl })
      (record { typed = ((1, refl, refl), (1, refl, (refl, refl, refl)), single_apart a b refl); writes = λ d. refl })
      (omega arith) (omega arith) refl refl refl;
}

pub refuted_subsume_beside_another : IsRefutedWithout 1 (R.subsume m 1) (m ∷ []) (a ∷ b ∷ []) subsume_beside_another
refuted_subsume_beside_another = record {
  fails = refl;
  otherwise = refl;
  apart = apart_by (m ∷ []) (a ∷ b ∷ []) subsume_beside_another 0 (written_alone b one) 1 0
      (record { typed = ((1, refl, refl), (1, refl, refl), single_apart a b refl); writes = λ d. refl })
      (record { typed = ((1, refl, refl), (1, refl, (refl, refl)), single_apart a b refl); writes = λ d. refl })
      (omega arith) (omega arith) refl refl refl;
}

pub refuted_subsume_of_an_arm : IsRefutedWithout 2 (R.subsume m 1) (m ∷ []) (a ∷ b ∷ []) subsume_of_an_arm
refuted_subsume_of_an_arm = record {
  fails = refl;
  otherwise = refl;
  apart = apart_by (m ∷ []) (a ∷ b ∷ []) subsume_of_an_arm 0 ((a, one) ∷ (b, one) ∷ []) 1 0
      (record { typed = ((1, refl, (refl, refl, refl)), (1, refl, refl), single_apart a b refl); writes = λ d. refl })
      (record { typed = ((1, refl, (refl, refl, refl)), (1, refl, (refl, refl)), single_apart a b refl); writes = λ d. refl })
      (omega arith) (omega arith) refl refl refl;
}

pub refuted_diverge_of_an_arm : IsRefutedWithout 1 R.diverge [] (a ∷ []) diverge_of_an_arm
refuted_diverge_of_an_arm = record {
  fails = refl;
  otherwise = refl;
  apart = apart_by [] (a ∷ []) diverge_of_an_arm 0 (written_alone a one) 1 0
      (record { typed = (1, refl, (refl, refl, refl)); writes = λ d. refl })
      (record { typed = (1, refl, refl); writes = λ d. refl })
      (omega arith) (omega arith) refl refl refl;
}
