-- The neighbours of a chain that means what it says, where they are used at a site.
use Rattle.std.proofs.Common.{◌≡◌, ℕ, ◌+◌, ◌<◌, List, [], ◌∷◌, ◌++◌, map, Option, refl, sym, ap₂, subst}
use Rattle.std.specs.List.{AllByRecursion}
use Rattle.std.specs.Map.{values_of}
use Rattle.ipdl_chain.specs.Chains.{Mark, by_rule, by_theorem, by_assumption, Link, Chain, EachTwo, count_in, count_of, terms_of}
use Rattle.ipdl_instances.proofs.Instances.{instances_are_equal, instance_is_typed}
use Rattle.ipdl_instances.specs.Sites.{IsSite}
use Rattle.ipdl_term.specs.Channels.{AreDisjoint}
use Rattle.ipdl_term.specs.Interpretations.{Signature}
use Rattle.ipdl_term.specs.Renaming.{hidden_channels}
use Rattle.ipdl_term.specs.Steps.{lr, rl}
use Rattle.ipdl_term.specs.Terms.{Protocol}
use Rattle.ipdl_term.specs.Typing.{HasInterface, scope_of, port_names}
use Rattle.ipdl_term.specs.declared.interface.Interface.{Interface}
use Rattle.ipdl_uses.proofs.CarriedSides.{sides_carried}
use Rattle.ipdl_uses.specs.Meanings.{AreEqualAt, Sides, MeansMark, AreTrue, ChainMeans}
use Rattle.ipdl_uses.specs.Uses.{Use, instance_of, instance_mark, instance_links, all_neighbours}

module _ (u : Use) where
  -- no new name of the use is hidden in the term
  abbrev pub IsFree : Protocol → Type 0
  IsFree term = AreDisjoint (values_of u.pairs) (hidden_channels term)

  -- no new name of the use is hidden in the terms of some links
  abbrev pub AreFree : List Link → Type 0
  AreFree links = AllByRecursion IsFree (map (λ (link : Link). link.term) links)

  -- ---- counts

  -- a mark stays of its kind, with its name
  count_in-instance : (name : List ℕ) (upper : Protocol) (mark : Mark) → count_in name (instance_mark u upper mark) ≡ count_in name mark
  count_in-instance name upper (by_rule direction word place) = refl
  count_in-instance name upper (by_theorem direction theorem place pairs) = refl
  count_in-instance name upper (by_assumption direction other place pairs C) = refl

  pub count_of-instance : (name : List ℕ) (upper : Protocol) (links : List Link) → count_of name (instance_links u upper links) ≡ count_of name links
  count_of-instance name upper [] = refl
  count_of-instance name upper (link ∷ links) =
      ap₂ ◌+◌ (count_in-instance name upper link.mark) (count_of-instance name link.term links)

  -- so what the links count there is true where what they count is
  pub true_of_instance : (sig : Signature) (assumed : List ℕ → Option Sides) (upper : Protocol) (links : List Link) → AreTrue sig assumed (instance_links u upper links) → AreTrue sig assumed links
  true_of_instance sig assumed upper links are_true name sides counted there =
      are_true name sides (subst (λ n. 0 < n) (sym (count_of-instance name upper links)) counted) there

  module _ (sig : Signature) (i j : Interface) (site : IsSite sig j u.pairs u.around (scope_of (i.inputs ++ i.outputs)) (port_names i.outputs)) where
    -- ---- terms

    pub instance_typed : (p : Protocol) → HasInterface sig j p → IsFree p → HasInterface sig i (instance_of u p)
    instance_typed p typed free =
        instance_is_typed sig j u.pairs u.around (scope_of (i.inputs ++ i.outputs)) (port_names i.outputs) site p typed free

    pub instances_equal : (p q : Protocol) → IsFree p → IsFree q → AreEqualAt sig j p q → AreEqualAt sig i (instance_of u p) (instance_of u q)
    instances_equal p q free_p free_q equal =
        instances_are_equal sig j u.pairs u.around (scope_of (i.inputs ++ i.outputs)) (port_names i.outputs) site p q free_p free_q equal

    typed_carried : (upper : Protocol) (links : List Link) → AreFree links → AllByRecursion (HasInterface sig j) (map (λ (link : Link). link.term) links) → AllByRecursion (HasInterface sig i) (map (λ (link : Link). link.term) (instance_links u upper links))
    typed_carried upper [] free typed = tt
    typed_carried upper (link ∷ links) free typed =
        (instance_typed link.term typed.0 free.0, typed_carried link.term links free.1 typed.1)

    equal_carried : (upper : Protocol) (links : List Link) → IsFree upper → AreFree links → EachTwo (λ mark. AreEqualAt sig j) upper links → EachTwo (λ mark. AreEqualAt sig i) (instance_of u upper) (instance_links u upper links)
    equal_carried upper [] here free equal = tt
    equal_carried upper (link ∷ links) here free equal =
        (instances_equal upper link.term here free.0 equal.0, equal_carried link.term links free.0 free.1 equal.1)

    module _ (assumed : List ℕ → Option Sides) where
      -- ---- marks

      mark_carried : (mark : Mark) (upper lower : Protocol) → IsFree upper → IsFree lower → MeansMark sig j assumed mark upper lower → MeansMark sig i assumed (instance_mark u upper mark) (instance_of u upper) (instance_of u lower)
      mark_carried (by_rule direction word place) upper lower free_upper free_lower h =
          instances_equal upper lower free_upper free_lower h
      mark_carried (by_theorem direction name place pairs) upper lower free_upper free_lower h =
          instances_equal upper lower free_upper free_lower h
      mark_carried (by_assumption lr name place pairs C) upper lower free_upper free_lower h = record {
        sides = h.sides;
        there = h.there;
        typed = h.typed;
        around = sides_carried C u.around u.pairs pairs sig h.sides upper lower h.typed free_upper free_lower h.around;
      }
      mark_carried (by_assumption rl name place pairs C) upper lower free_upper free_lower h = record {
        sides = h.sides;
        there = h.there;
        typed = h.typed;
        around = sides_carried C u.around u.pairs pairs sig h.sides lower upper h.typed free_lower free_upper h.around;
      }

      marks_carried : (upper : Protocol) (links : List Link) → IsFree upper → AreFree links → EachTwo (MeansMark sig j assumed) upper links → EachTwo (MeansMark sig i assumed) (instance_of u upper) (instance_links u upper links)
      marks_carried upper [] here free means = tt
      marks_carried upper (link ∷ links) here free means =
          (mark_carried link.mark upper link.term here free.0 means.0, marks_carried link.term links free.0 free.1 means.1)

      -- ---- the whole

      pub all_means : (chain : Chain) → AllByRecursion IsFree (terms_of chain) → ChainMeans sig j assumed chain → ChainMeans sig i assumed (all_neighbours u chain)
      all_means chain free means = record {
        typed = (instance_typed chain.first means.typed.0 free.0, typed_carried chain.first chain.links free.1 means.typed.1);
        marks = marks_carried chain.first chain.links free.0 free.1 means.marks;
        equal = λ are_true. equal_carried chain.first chain.links free.0 free.1 (means.equal (true_of_instance sig assumed chain.first chain.links are_true));
      }
