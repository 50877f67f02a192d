-- The assignments that are collected are those of the network, and each has its segment of the tape.
use Rattle.std.proofs.Common.{◌≡◌, ℕ, zero, suc, ◌+◌, ◌*◌, ◌<◌, ◌≤◌, true, false, List, [], ◌∷◌, ◌++◌, Option, Some, None, get_or, length, map, slice_get, refl, sym, ap, ap₂, ◌∙◌, subst, arith, add_assoc}
use Rattle.std.proofs.lemmas.List.{map-append, length-map}
use Rattle.std.proofs.lemmas.List.Elements.{All-append}
use Rattle.std.proofs.lemmas.Option.{slice_get-map, slice_get-get_or, get_or_from_slice_get}
use Rattle.std.specs.Option.{option_map}
use Rattle.std.specs.Prelude.{All, is_some}
use mathlib.Core.Path.{fun_ext}
use Rattle.ipdl_laws.proofs.Numbers.{is_some-writer_number, writer_number_none}
use Rattle.ipdl_laws.proofs.Sets.{by_test, if-true, if-false, AreDisjoint_swap}
use Rattle.ipdl_mean.specs.Readings.{assignment_of, assignments_from, writers_with}
use Rattle.ipdl_mean.specs.Running.{HasNarrowFlips}
use Rattle.ipdl_mean.specs.Views.{node_of}
use Rattle.ipdl_mean.specs.declared.net.Node.{Node as Held}
use Rattle.ipdl_term.proofs.ChannelSets.{same_channel-sound}
use Rattle.ipdl_term.specs.Channels.{same_channel, has, outputs}
use Rattle.ipdl_term.specs.Interpretations.{Signature}
use Rattle.ipdl_term.specs.Networks.{assignment_count, writer_number, Writers, writers_within, writers_without, Node, nodes_from, network, no_writers}
use Rattle.ipdl_term.specs.Protocols.{coins}
use Rattle.ipdl_term.specs.Reactions.{reaction_coins}
use Rattle.ipdl_term.specs.Sizes.{reaction_nodes, protocol_nodes}
use Rattle.ipdl_term.specs.Terms.{Channel, Reaction, returning, flipping, reading, branching, binding, Protocol, nil, assignment, parallel, hiding}
use Rattle.ipdl_term.specs.Typing.{Scope, scope_with, GivesWidth, IsTyped}
use Rattle.ipdl_term.specs.Variables.{first_number}

-- ---- which assignments write

first_number-left : (a b w : Option ℕ) → first_number a (first_number (first_number a b) w) ≡ first_number (first_number a b) w
first_number-left None b w = refl
first_number-left (Some m) b w = refl

first_number-right : (a b w : Option ℕ) → (is_some b ≡ true → a ≡ None) → first_number b (first_number (first_number a b) w) ≡ first_number (first_number a b) w
first_number-right a None w none = refl
first_number-right a (Some m) w none = sym (ap (λ x. first_number (first_number x (Some m)) w) (none refl))

first_number-none : (a : Option ℕ) → first_number a None ≡ a
first_number-none None = refl
first_number-none (Some m) = refl

module _ (p q : Protocol) (number : ℕ) (writers : Writers) where
  writers_of_left : writers_within p number (writers_within (parallel p q) number writers) ≡ writers_within (parallel p q) number writers
  writers_of_left = fun_ext (λ c. first_number-left (writer_number p number c) (writer_number q (number + assignment_count p) c) (writers c))

  writers_of_right : ((c : Channel) → has (outputs q) c ≡ true → has (outputs p) c ≡ false) → writers_within q (number + assignment_count p) (writers_within (parallel p q) number writers) ≡ writers_within (parallel p q) number writers
  writers_of_right apart = fun_ext (λ c. first_number-right (writer_number p number c) (writer_number q (number + assignment_count p) c) (writers c)
      (λ k. writer_number_none p number c (apart c (sym (is_some-writer_number q (number + assignment_count p) c) ∙ k))))

writers_of_hidden : (c : Channel) (w : ℕ) (p : Protocol) (number : ℕ) (writers : Writers) → writers_within p number (writers_without c writers) ≡ writers_with c (writer_number p number c) (writers_within (hiding c w p) number writers)
writers_of_hidden c w p number writers = fun_ext (λ d. by_test (same_channel c d)
    (λ same. ap (first_number (writer_number p number d)) (if-true (same_channel c d) None (writers d) same) ∙
    first_number-none (writer_number p number d) ∙
    ap (writer_number p number) (sym (same_channel-sound c d same)) ∙
    sym (if-true (same_channel c d) (writer_number p number c) (writers_within (hiding c w p) number writers d) same))
    (λ other. ap (first_number (writer_number p number d)) (if-false (same_channel c d) None (writers d) other) ∙
    ap (λ o. first_number o (writers d)) (sym (if-false (same_channel c d) None (writer_number p number d) other)) ∙
    sym (if-false (same_channel c d) (writer_number p number c) (writers_within (hiding c w p) number writers d) other)))

-- ---- the assignments

module _ (sig : Signature) where
  -- what is collected of a typed protocol are the assignments of its network
  pub assignments_are_nodes : (p : Protocol) (scope : Scope) → IsTyped sig scope p → (number bit : ℕ) (writers : Writers) → assignments_from p number bit (writers_within p number writers) ≡ map assignment_of (nodes_from p number bit writers)
  assignments_are_nodes nil scope typed number bit writers = refl
  assignments_are_nodes (assignment c r) scope typed number bit writers = refl
  assignments_are_nodes (parallel p q) scope typed number bit writers =
      let inside = writers_within (parallel p q) number writers in
      let left = ap (assignments_from p number bit) (sym (writers_of_left p q number writers)) ∙ assignments_are_nodes p scope typed.0 number bit inside in
      let right = ap (assignments_from q (number + assignment_count p) (bit + coins p)) (sym (writers_of_right p q number writers (AreDisjoint_swap (outputs p) (outputs q) typed.2))) ∙ assignments_are_nodes q scope typed.1 (number + assignment_count p) (bit + coins p) inside in
      ap₂ (λ xs ys. xs ++ ys) left right ∙
      sym (map-append assignment_of (nodes_from p number bit inside) (nodes_from q (number + assignment_count p) (bit + coins p) inside))
  assignments_are_nodes (hiding c w p) scope typed number bit writers =
      ap (assignments_from p number bit) (sym (writers_of_hidden c w p number writers)) ∙ assignments_are_nodes p (scope_with c w scope) typed.1 number bit (writers_without c writers)

  -- the flips of a typed reaction are narrow
  pub narrow_flips : (r : Reaction) (scope : Scope) (widths : List ℕ) (w : ℕ) → GivesWidth sig scope widths r w → HasNarrowFlips r
  narrow_flips (returning e) scope widths w typed = tt
  narrow_flips (flipping n) scope widths w typed = omega (arith, typed.0, typed.1)
  narrow_flips (reading c) scope widths w typed = tt
  narrow_flips (branching e r s) scope widths w typed = (narrow_flips r scope widths w typed.1, narrow_flips s scope widths w typed.2)
  narrow_flips (binding v r s) scope widths w typed = (narrow_flips r scope widths v typed.0, narrow_flips s scope (v ∷ widths) w typed.1)

  only : (P : Node → Type 0) (node : Node) → P node → All P (node ∷ [])
  only P node h zero d less = h
  only P node h (suc k) d less = absurd (omega arith)

  -- what holds of each assignment, where the tape ends at this bit
  abbrev pub IsNodeBefore : ℕ → Node → Type 0
  IsNodeBefore end node = HasNarrowFlips node.reaction × (node.first_bit + reaction_coins node.reaction ≤ end)

  pub nodes_before : (p : Protocol) (scope : Scope) → IsTyped sig scope p → (number bit end : ℕ) (writers : Writers) → bit + coins p ≤ end → All (IsNodeBefore end) (nodes_from p number bit writers)
  nodes_before nil scope typed number bit end writers h = λ k d less. absurd (omega arith)
  nodes_before (assignment c r) scope typed number bit end writers h = only (IsNodeBefore end) (record { channel = c; reaction = r; first_bit = bit; writer = writers_within (assignment c r) number writers }) (narrow_flips r scope [] typed.0 typed.2, h)
  nodes_before (parallel p q) scope typed number bit end writers h =
      All-append (IsNodeBefore end) (nodes_from p number bit (writers_within (parallel p q) number writers)) (nodes_from q (number + assignment_count p) (bit + coins p) (writers_within (parallel p q) number writers))
      (nodes_before p scope typed.0 number bit end (writers_within (parallel p q) number writers) (omega arith))
      (nodes_before q scope typed.1 (number + assignment_count p) (bit + coins p) end (writers_within (parallel p q) number writers) (omega (arith, add_assoc bit (coins p) (coins q))))
  nodes_before (hiding c w p) scope typed number bit end writers h = nodes_before p (scope_with c w scope) typed.1 number bit end (writers_without c writers) h

  -- ---- sizes

  pub coins_of_typed : (p : Protocol) (scope : Scope) → IsTyped sig scope p → coins p ≤ 128 * protocol_nodes p
  coins_of_typed nil scope typed = omega arith
  coins_of_typed (assignment c r) scope typed = omega (arith, narrow_coins r (narrow_flips r scope [] typed.0 typed.2))
    where
      narrow_coins : (r : Reaction) → HasNarrowFlips r → reaction_coins r ≤ 128 * reaction_nodes r
      narrow_coins (returning e) h = omega arith
      narrow_coins (flipping w) h = omega (arith, h)
      narrow_coins (reading c) h = omega arith
      narrow_coins (branching e r s) h = omega (arith, narrow_coins r h.0, narrow_coins s h.1)
      narrow_coins (binding w r s) h = omega (arith, narrow_coins r h.0, narrow_coins s h.1)
  coins_of_typed (parallel p q) scope typed = omega (arith, coins_of_typed p scope typed.0, coins_of_typed q scope typed.1)
  coins_of_typed (hiding c w p) scope typed = omega (arith, coins_of_typed p (scope_with c w scope) typed.1)

pub count_within_nodes : (p : Protocol) → assignment_count p ≤ protocol_nodes p
count_within_nodes nil = omega arith
count_within_nodes (assignment c r) = omega arith
count_within_nodes (parallel p q) = omega (arith, count_within_nodes p, count_within_nodes q)
count_within_nodes (hiding c w p) = omega (arith, count_within_nodes p)

-- ---- what the program holds

-- the assignment that the program holds at a number
pub record IsHeldAt (nodes : List Node) (k : ℕ) (held : Held) : Type 0 where
  pub node : Node
  pub there : slice_get nodes k ≡ Some node
  pub held_is : node_of held ≡ assignment_of node

pub held_at : (holds : List Held) (nodes : List Node) → map node_of holds ≡ map assignment_of nodes → (k : ℕ) (held : Held) → k < length holds → held ≡ get_or holds k held → IsHeldAt nodes k held
held_at holds nodes is k held within at = go (slice_get nodes k) refl
    (ap (option_map node_of) (sym (slice_get-get_or holds k held within ∙ ap (λ h. Some h) (sym at))) ∙ sym (slice_get-map node_of holds k) ∙ ap (λ xs. slice_get xs k) is ∙ slice_get-map assignment_of nodes k)
  where
    go : (o : Option Node) → slice_get nodes k ≡ o → Some (node_of held) ≡ option_map assignment_of (slice_get nodes k) → IsHeldAt nodes k held
    go None there e = let n = e ∙ ap (option_map assignment_of) there in absurd (cc)
    go (Some node) there e = let n = e ∙ ap (option_map assignment_of) there in record { node = node; there = there; held_is = cc }

pub all_at : (P : Node → Type 0) (nodes : List Node) (k : ℕ) (node : Node) → All P nodes → k < length nodes → slice_get nodes k ≡ Some node → P node
all_at P nodes k node all within there = subst P (get_or_from_slice_get nodes k node node there) (all k node within)

pub length-network : (holds : List Held) (nodes : List Node) → map node_of holds ≡ map assignment_of nodes → length nodes ≡ length holds
length-network holds nodes is = sym (length-map nodes assignment_of) ∙ sym (ap length is) ∙ length-map holds node_of

-- what is collected of a whole protocol is its network
pub collected_is_network : (sig : Signature) (p : Protocol) (scope : Scope) → IsTyped sig scope p → (holds before : List Held) → before ≡ [] → map node_of holds ≡ map node_of before ++ assignments_from p (length before) 0 (writer_number p 0) → map node_of holds ≡ map assignment_of (network p)
collected_is_network sig p scope typed holds before none is =
    is ∙
    ap (λ b. map node_of b ++ assignments_from p (length b) 0 (writer_number p 0)) none ∙
    ap (assignments_from p 0 0) (fun_ext (λ c. sym (first_number-none (writer_number p 0 c)))) ∙
    assignments_are_nodes sig p scope typed 0 0 no_writers
