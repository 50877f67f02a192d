-- What is told to be wrong is what is wrong first: nothing before it is.
use Rattle.std.proofs.Common.{◌≡◌, ◌⊎◌, inl, inr, ℕ, suc, ◌+◌, List, [], ◌∷◌, ◌++◌, length, Option, Some, None, refl, sym, ap, ap₂, ◌∙◌, subst, arith}
use Rattle.std.proofs.lemmas.List.{length-append}
use Rattle.std.specs.Option.{option_or}
use Rattle.std.specs.Prelude.{◌↔◌, option_map}
use Rattle.ipdl_base.specs.Limits.{limit_number}
use Rattle.ipdl_base.specs.declared.limit.Limit.TheVariants.{Chain as ChainLimit}
use Rattle.ipdl_chain.specs.Chains.{Link, last_of, neighbour_count}
use Rattle.ipdl_script.proofs.DifferenceLaws.{differ_first, differs_first_exactly}
use Rattle.ipdl_script.proofs.Leading.{last_of-step}
use Rattle.ipdl_script.proofs.ScriptLaws.{script_stands, stands_script}
use Rattle.ipdl_script.proofs.StepLaws.{step_stands, stands_step}
use Rattle.ipdl_script.proofs.StepTests.{none_of_map, none_of_either, limit_test-kept, limit_is_kept}
use Rattle.ipdl_script.specs.EndPlaces.{differing_place}
use Rattle.ipdl_script.specs.Scripts.{Theorem, links_of_step, count_after, IsScript, Side, left_side, right_side, Wrong, wrong_step, wrong_ends, chain_test, refusal_in_script, wrong_in_script, left_links, right_links, left_end, right_end, first_wrong, IsRefusedAt, IsFirstWrong}
use Rattle.ipdl_script.specs.Steps.{Setting, Refusal, step_refusal, after_step}
use Rattle.ipdl_term.specs.Steps.{Step}
use Rattle.ipdl_term.specs.Terms.{Protocol}

first_or_second : {X : Type 0} (a b : Option X) (w : X) → option_or a b ≡ Some w → (a ≡ Some w) ⊎ ((a ≡ None) × (b ≡ Some w))
first_or_second None b w h = inr (refl, h)
first_or_second (Some x) b w h = inl h

some_of_map : {X Y : Type 0} (f : X → Y) (a : Option X) (w : Y) → option_map f a ≡ Some w → (x : X) × (a ≡ Some x) × (w ≡ f x)
some_of_map f None w h = cc
some_of_map f (Some x) w h = (x, refl, cc)

none_before : {X Y : Type 0} (f : X → Y) (a b : Option X) (c : Option Y) → a ≡ None → b ≡ None → option_or (option_map f (option_or a b)) c ≡ c
none_before f None None c h k = refl
none_before f None (Some y) c h k = cc
none_before f (Some x) b c h k = cc

module _ (x : Setting) where
  -- ---- what is told is wrong first

  -- a wrong step of a script, whose steps are numbered from this number on
  abbrev Tells : ℕ → Side → ℕ → Protocol → List Step → Wrong → Type 0
  Tells so_far side number before steps w = (n : ℕ) × (r : Refusal) × (w ≡ wrong_step side (number + n) r) × IsRefusedAt x so_far before steps (suc n) r

  module _ (so_far : ℕ) (side : Side) (number : ℕ) (before : Protocol) (step : Step) (steps : List Step) (w : Wrong) where
    -- the first of the steps
    here : (r : Refusal) → refusal_in_script x so_far before step ≡ Some r → w ≡ wrong_step side number r → Tells so_far side number before (step ∷ steps) w
    here r refused is = (0, r, is ∙ ap (λ k. wrong_step side k r) (omega arith), record { done = []; step = step; later = steps; links = []; in_order = refl; numbered = refl; stand = refl; refused = ap (λ k. refusal_in_script x k before step) (omega arith) ∙ refused })

    -- a later one
    further : (n : ℕ) (r : Refusal) → refusal_in_script x so_far before step ≡ None → w ≡ wrong_step side (suc number + n) r → IsRefusedAt x (count_after x so_far before step (after_step x before step)) (after_step x before step) steps (suc n) r → Tells so_far side number before (step ∷ steps) w
    further n r passed is rest =
        let after = after_step x before step in
        let parts = none_of_either (step_refusal x before step) (chain_test x so_far before step after) passed in
        let stands = stands_step x before step parts.0 in
        let links = links_of_step x before step after ++ rest.links in
        let many : count_after x so_far before step after + neighbour_count rest.links ≡ so_far + neighbour_count links = omega (arith, length-append (links_of_step x before step after) rest.links) in (
          suc n,
          r,
          is ∙ ap (λ k. wrong_step side k r) (omega arith),
          record {
            done = step ∷ rest.done;
            step = rest.step;
            later = rest.later;
            links = links;
            in_order = ap (λ l. step ∷ l) rest.in_order;
            numbered = ap suc rest.numbered;
            stand = record { after = after; later = rest.links; stands = stands; short = limit_is_kept ChainLimit (limit_number ChainLimit) (count_after x so_far before step after) parts.1; rest = rest.stand; all = refl };
            refused = ap₂ (λ k p. refusal_in_script x k p rest.step) (sym many) (last_of-step x before step after rest.links stands) ∙ rest.refused;
          },
        )

    one_of : (later : Option Wrong) → (later ≡ Some w → Tells (count_after x so_far before step (after_step x before step)) side (suc number) (after_step x before step) steps w) →
        (option_map (wrong_step side number) (refusal_in_script x so_far before step) ≡ Some w) ⊎ ((option_map (wrong_step side number) (refusal_in_script x so_far before step) ≡ None) × (later ≡ Some w)) →
        Tells so_far side number before (step ∷ steps) w
    one_of later further_on (inl k) = let m = some_of_map (wrong_step side number) (refusal_in_script x so_far before step) w k in here m.0 m.1 m.2
    one_of later further_on (inr k) = let rest = further_on k.1 in further rest.0 rest.1 (none_of_map (wrong_step side number) (refusal_in_script x so_far before step) k.0) rest.2 rest.3

  wrong_tells : (so_far : ℕ) (side : Side) (number : ℕ) (before : Protocol) (steps : List Step) (w : Wrong) → wrong_in_script x so_far side number before steps ≡ Some w → Tells so_far side number before steps w
  wrong_tells so_far side number before [] w h = cc
  wrong_tells so_far side number before (step ∷ steps) w h =
      let after = after_step x before step in
      let many = count_after x so_far before step after in
      let later = wrong_in_script x many side (suc number) after steps in
      one_of so_far side number before step steps w later (wrong_tells many side (suc number) after steps w)
      (first_or_second (option_map (wrong_step side number) (refusal_in_script x so_far before step)) later w h)

  module _ (so_far : ℕ) (t : Theorem) (w : Wrong) where
    abbrev after_left : ℕ
    after_left = so_far + neighbour_count (left_links x t)

    abbrev in_left : Option Wrong
    in_left = wrong_in_script x so_far left_side 1 t.left t.lefts

    abbrev in_right : Option Wrong
    in_right = wrong_in_script x after_left right_side 1 t.right t.rights

    abbrev in_ends : Option Wrong
    in_ends = option_map wrong_ends (differing_place (left_end x t) (right_end x t))

    by_right : in_left ≡ None → (in_right ≡ Some w) ⊎ ((in_right ≡ None) × (in_ends ≡ Some w)) → IsFirstWrong x so_far t w
    by_right none (inl k) =
        let tells = wrong_tells after_left right_side 1 t.right t.rights w k in
        subst (IsFirstWrong x so_far t) (sym (tells.2 ∙ ap (λ n. wrong_step right_side n tells.1) (omega arith)))
        (record { lefts = left_links x t; left_script = stands_script x so_far left_side 1 t.left t.lefts none; right_step = tells.3 })
    by_right none (inr k) =
        let m = some_of_map wrong_ends (differing_place (left_end x t) (right_end x t)) w k.1 in
        subst (IsFirstWrong x so_far t) (sym m.2)
        (record {
          lefts = left_links x t;
          rights = right_links x t;
          left_script = stands_script x so_far left_side 1 t.left t.lefts none;
          right_script = stands_script x after_left right_side 1 t.right t.rights k.0;
          differ = differ_first (left_end x t) (right_end x t) m.0 m.1;
        })

    by_left : (in_left ≡ Some w) ⊎ ((in_left ≡ None) × (option_or in_right in_ends ≡ Some w)) → IsFirstWrong x so_far t w
    by_left (inl k) =
        let tells = wrong_tells so_far left_side 1 t.left t.lefts w k in
        subst (IsFirstWrong x so_far t) (sym (tells.2 ∙ ap (λ n. wrong_step left_side n tells.1) (omega arith))) tells.3
    by_left (inr k) = by_right k.0 (first_or_second in_right in_ends w k.1)

    told_is_first : first_wrong x so_far t ≡ Some w → IsFirstWrong x so_far t w
    told_is_first h = by_left (first_or_second in_left (option_or in_right in_ends) w h)

  -- ---- and what is wrong first is told

  module _ (side : Side) where
    same_start : (many others number further : ℕ) (p q : Protocol) (steps : List Step) → many ≡ others → number ≡ further → p ≡ q → wrong_in_script x many side number p steps ≡ wrong_in_script x others side further q steps
    same_start many others number further p q steps e f g =
        ap₂ (λ k n. wrong_in_script x k side n p steps) e f ∙ ap (λ y. wrong_in_script x others side further y steps) g

    -- the steps that stand have no part in it
    pub wrong_in_script-append : (so_far number : ℕ) (before : Protocol) (done later : List Step) (links : List Link) → IsScript x so_far before done links →
        wrong_in_script x so_far side number before (done ++ later) ≡ wrong_in_script x (so_far + neighbour_count links) side (number + length done) (last_of before links) later
    wrong_in_script-append so_far number before [] later links h =
        subst (λ ls. wrong_in_script x so_far side number before later ≡ wrong_in_script x (so_far + neighbour_count ls) side (number + 0) (last_of before ls) later) (sym h)
        (same_start _ _ _ _ before before later (omega arith) (omega arith) refl)
    wrong_in_script-append so_far number before (step ∷ done) later links h =
        let after = h.after in
        let many = count_after x so_far before step after in
        let stands = step_stands x before step after h.stands in
        let length_is : neighbour_count links ≡ neighbour_count (links_of_step x before step after) + neighbour_count h.later = ap neighbour_count h.all ∙ length-append (links_of_step x before step after) h.later in
        let passed : option_or (option_map (wrong_step side number) (option_or (step_refusal x before step) (chain_test x so_far before step after))) (wrong_in_script x many side (suc number) after (done ++ later)) ≡ wrong_in_script x many side (suc number) after (done ++ later) =
        none_before (wrong_step side number) (step_refusal x before step) (chain_test x so_far before step after) _ stands.0 (limit_test-kept ChainLimit (limit_number ChainLimit) many h.short) in
        subst (λ p. option_or (option_map (wrong_step side number) (option_or (step_refusal x before step) (chain_test x so_far before step p))) (wrong_in_script x (count_after x so_far before step p) side (suc number) p (done ++ later)) ≡ wrong_in_script x many side (suc number) after (done ++ later)) (sym stands.1) passed
        ∙ wrong_in_script-append many (suc number) after done later h.later h.rest
        ∙ same_start _ _ _ _ _ _ later (omega (arith, length_is)) (omega arith) (sym (ap (last_of before) h.all ∙ last_of-step x before step after h.later h.stands))

    refused_is_told : (so_far : ℕ) (before : Protocol) (steps : List Step) (number : ℕ) (r : Refusal) → IsRefusedAt x so_far before steps number r → wrong_in_script x so_far side 1 before steps ≡ Some (wrong_step side number r)
    refused_is_told so_far before steps number r h =
        let n = 1 + length h.done in
        let many = so_far + neighbour_count h.links in
        let end = last_of before h.links in
        ap (wrong_in_script x so_far side 1 before) h.in_order
        ∙ wrong_in_script-append so_far 1 before h.done (h.step ∷ h.later) h.links h.stand
        ∙ ap (λ o. option_or (option_map (wrong_step side n) o) (wrong_in_script x (count_after x many end h.step (after_step x end h.step)) side (suc n) (after_step x end h.step) h.later)) h.refused
        ∙ ap (λ k. Some (wrong_step side k r)) (omega (arith, h.numbered))

  module _ (so_far : ℕ) (t : Theorem) where
    -- where the left script stands the right one is looked at
    right_is_told : (lefts : List Link) (w : Wrong) → IsScript x so_far t.left t.lefts lefts →
        option_or (wrong_in_script x (so_far + neighbour_count lefts) right_side 1 t.right t.rights) (option_map wrong_ends (differing_place (last_of t.left lefts) (right_end x t))) ≡ Some w → first_wrong x so_far t ≡ Some w
    right_is_told lefts w h told =
        let left = script_stands x so_far left_side 1 t.left t.lefts lefts h in
        ap (λ o. option_or o (option_or (in_right so_far t w) (in_ends so_far t w))) left.0
        ∙ subst (λ ls. option_or (wrong_in_script x (so_far + neighbour_count ls) right_side 1 t.right t.rights) (option_map wrong_ends (differing_place (last_of t.left ls) (right_end x t))) ≡ Some w) (sym left.1) told

    first_is_told : (w : Wrong) → IsFirstWrong x so_far t w → first_wrong x so_far t ≡ Some w
    first_is_told (wrong_step left_side number r) h =
        let w = wrong_step left_side number r in
        ap (λ o. option_or o (option_or (in_right so_far t w) (in_ends so_far t w))) (refused_is_told left_side so_far t.left t.lefts number r h)
    first_is_told (wrong_step right_side number r) h =
        right_is_told h.lefts (wrong_step right_side number r) h.left_script
        (ap (λ o. option_or o (option_map wrong_ends (differing_place (last_of t.left h.lefts) (right_end x t)))) (refused_is_told right_side (so_far + neighbour_count h.lefts) t.right t.rights number r h.right_step))
    first_is_told (wrong_ends place) h =
        let right = script_stands x (so_far + neighbour_count h.lefts) right_side 1 t.right t.rights h.rights h.right_script in
        let differ : differing_place (last_of t.left h.lefts) (last_of t.right h.rights) ≡ Some place = (differs_first_exactly (last_of t.left h.lefts) (last_of t.right h.rights) place).1 h.differ in
        right_is_told h.lefts (wrong_ends place) h.left_script
        (ap (λ o. option_or o (option_map wrong_ends (differing_place (last_of t.left h.lefts) (right_end x t)))) right.0
        ∙ ap (option_map wrong_ends) (subst (λ ls. differing_place (last_of t.left h.lefts) (last_of t.right ls) ≡ Some place) (sym right.1) differ))

  pub wrong_is_first : (so_far : ℕ) (t : Theorem) (w : Wrong) → (first_wrong x so_far t ≡ Some w) ↔ IsFirstWrong x so_far t w
  wrong_is_first so_far t w = (told_is_first so_far t w, first_is_told so_far t w)
