-- The chain of an assumption means what it says.
use Rattle.std.proofs.Common.{◌≡◌, ℕ, ◌+◌, ◌<◌, List, [], bytes_eq, if◌then◌else◌, Option, Some, refl, sym, subst, arith}
use Rattle.std.proofs.lemmas.Slice.Eq.{bytes_eq-Decides}
use Rattle.std.specs.Map.{keys_of}
use Rattle.ipdl_chain.specs.Chains.{by_assumption, Link}
use Rattle.ipdl_embed.proofs.Completions.{keys_of-named}
use Rattle.ipdl_embed.specs.Completing.{channels_of, completed}
use Rattle.ipdl_instances.proofs.Composed.{renaming_of-named, renamed_by_no_pairs}
use Rattle.ipdl_term.specs.Interpretations.{Signature}
use Rattle.ipdl_term.specs.Renaming.{CapturesNone, renaming_of}
use Rattle.ipdl_term.specs.Steps.{lr}
use Rattle.ipdl_term.specs.Terms.{Protocol, hole}
use Rattle.ipdl_term.specs.declared.interface.Interface.{Interface}
use Rattle.ipdl_uses.proofs.Chains.{means_one}
use Rattle.ipdl_uses.specs.Lemmas.{assumed_chain}
use Rattle.ipdl_uses.specs.Meanings.{Sides, AreTypedSides, AreSidesIn, ChainMeans}

-- in its own names with nothing around, the two sides are the two protocols
own_names_capture_none : (i : Interface) (p : Protocol) → CapturesNone (keys_of (completed i [])) (renaming_of (completed i [])) p
own_names_capture_none i p c there hidden = renaming_of-named (renaming_of []) (channels_of i) (λ d. refl) c

sides_in_own_names : (sides : Sides) → AreSidesIn sides (completed sides.interface []) hole sides.left sides.right
sides_in_own_names sides = record {
  named = keys_of-named (renaming_of []) (channels_of sides.interface);
  left = sym (renamed_by_no_pairs sides.interface sides.left);
  right = sym (renamed_by_no_pairs sides.interface sides.right);
  none_left = own_names_capture_none sides.interface sides.left;
  none_right = own_names_capture_none sides.interface sides.right;
}

-- its one link counts it
counts_itself : (name : List ℕ) → 0 < (if bytes_eq name name then 1 else 0) + 0
counts_itself name = subst (λ b. 0 < (if b then 1 else 0) + 0) (sym ((bytes_eq-Decides name name).1 refl)) (omega arith)

pub assumption_means : (sig : Signature) (assumed : List ℕ → Option Sides) (name : List ℕ) (sides : Sides) → assumed name ≡ Some sides → AreTypedSides sig sides →
    ChainMeans sig sides.interface assumed (assumed_chain name sides.interface sides.left sides.right)
assumption_means sig assumed name sides there typed =
    let i = sides.interface in
    let link : Link = record { mark = by_assumption lr name [] (completed i []) hole; term = sides.right } in
    means_one sig i assumed sides.left link typed.left typed.right
    (record { sides = sides; there = there; typed = typed; around = sides_in_own_names sides })
    (λ are_true. are_true name sides (counts_itself name) there)
