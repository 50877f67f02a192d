-- Chains that mean what they say: one of them after another, from its last term back to its first one, and its two ends.
use Rattle.std.proofs.Common.{◌≡◌, ℕ, ◌+◌, ◌<◌, ◌≤◌, Bool, true, false, List, [], ◌∷◌, ◌++◌, map, bytes_eq, if◌then◌else◌, Option, refl, sym, subst, arith}
use Rattle.std.proofs.lemmas.Bool.{eqb-true}
use Rattle.std.specs.List.{AllByRecursion}
use Rattle.ipdl_chain.proofs.Turns.{last_of-turned}
use Rattle.ipdl_chain.specs.Chains.{Mark, by_rule, by_theorem, by_assumption, Link, Chain, EachTwo, last_of, assumed_in, count_in, assumed_count, count_of, turned_mark, turned_links, turned}
use Rattle.ipdl_laws.proofs.EqualLaws.{equal_refl, equal_sym, equal_trans}
use Rattle.ipdl_term.specs.Interpretations.{Signature}
use Rattle.ipdl_term.specs.Steps.{lr, rl}
use Rattle.ipdl_term.specs.Terms.{Protocol}
use Rattle.ipdl_term.specs.Typing.{HasInterface, scope_of, port_names}
use Rattle.ipdl_term.specs.declared.interface.Interface.{Interface}
use Rattle.ipdl_uses.specs.Lemmas.{is_exact}
use Rattle.ipdl_uses.specs.Meanings.{AreEqualAt, Sides, MeansMark, AreTrue, ChainMeans}

-- ---- links one after the other, and turned round

pub last_of-append : (term : Protocol) (links later : List Link) → last_of term (links ++ later) ≡ last_of (last_of term links) later
last_of-append term [] later = refl
last_of-append term (link ∷ links) later = last_of-append link.term links later

pub each_appended : (Marks : Mark → Protocol → Protocol → Type 0) (first : Protocol) (links later : List Link) → EachTwo Marks first links → EachTwo Marks (last_of first links) later → EachTwo Marks first (links ++ later)
each_appended Marks first [] later h k = k
each_appended Marks first (link ∷ links) later h k = (h.0, each_appended Marks link.term links later h.1 k)

pub each_turned : (Marks : Mark → Protocol → Protocol → Type 0) → ((mark : Mark) (p q : Protocol) → Marks mark p q → Marks (turned_mark mark) q p) →
    (first : Protocol) (links : List Link) → EachTwo Marks first links → EachTwo Marks (last_of first links) (turned_links first links)
each_turned Marks turns first [] h = tt
each_turned Marks turns first (link ∷ links) h =
    each_appended Marks (last_of link.term links) (turned_links link.term links) (record { mark = turned_mark link.mark; term = first } ∷ []) (each_turned Marks turns link.term links h.1)
    (subst (λ q. Marks (turned_mark link.mark) q first × Unit {0}) (sym (last_of-turned link.term links)) (turns link.mark first link.term h.0, tt))

-- the same of the further terms alone
pub all_appended : (P : Protocol → Type 0) (links later : List Link) → AllByRecursion P (map (λ (link : Link). link.term) links) → AllByRecursion P (map (λ (link : Link). link.term) later) → AllByRecursion P (map (λ (link : Link). link.term) (links ++ later))
all_appended P [] later h k = k
all_appended P (link ∷ links) later h k = (h.0, all_appended P links later h.1 k)

pub all_turned : (P : Protocol → Type 0) (first : Protocol) (links : List Link) → P first → AllByRecursion P (map (λ (link : Link). link.term) links) → AllByRecursion P (last_of first links ∷ map (λ (link : Link). link.term) (turned_links first links))
all_turned P first [] here h = (here, tt)
all_turned P first (link ∷ links) here h =
    let rest = all_turned P link.term links h.0 h.1 in
    (rest.0, all_appended P (turned_links link.term links) (record { mark = turned_mark link.mark; term = first } ∷ []) rest.1 (here, tt))

pub all_at_last : (P : Protocol → Type 0) (first : Protocol) (links : List Link) → P first → AllByRecursion P (map (λ (link : Link). link.term) links) → P (last_of first links)
all_at_last P first [] here h = here
all_at_last P first (link ∷ links) here h = all_at_last P link.term links h.0 h.1

-- ---- counts

pub count_of-append : (name : List ℕ) (links later : List Link) → count_of name (links ++ later) ≡ count_of name links + count_of name later
count_of-append name [] later = omega arith
count_of-append name (link ∷ links) later = omega (arith, count_of-append name links later)

pub assumed_count-append : (links later : List Link) → assumed_count (links ++ later) ≡ assumed_count links + assumed_count later
assumed_count-append [] later = omega arith
assumed_count-append (link ∷ links) later = omega (arith, assumed_count-append links later)

pub count_in-turned : (name : List ℕ) (mark : Mark) → count_in name (turned_mark mark) ≡ count_in name mark
count_in-turned name (by_rule direction word place) = refl
count_in-turned name (by_theorem direction theorem place pairs) = refl
count_in-turned name (by_assumption direction other place pairs C) = refl

pub count_of-turned : (name : List ℕ) (first : Protocol) (links : List Link) → count_of name (turned_links first links) ≡ count_of name links
count_of-turned name first [] = refl
count_of-turned name first (link ∷ links) =
    omega (arith, count_of-append name (turned_links link.term links) (record { mark = turned_mark link.mark; term = first } ∷ []), count_of-turned name link.term links, count_in-turned name link.mark)

-- one mark counts for one assumption at most
count_in-most : (name : List ℕ) (mark : Mark) → count_in name mark ≤ assumed_in mark
count_in-most name (by_rule direction word place) = omega arith
count_in-most name (by_theorem direction theorem place pairs) = omega arith
count_in-most name (by_assumption direction other place pairs C) = go (bytes_eq other name)
  where
    go : (b : Bool) → (if b then 1 else 0) ≤ 1
    go true = omega arith
    go false = omega arith

pub count_of-most : (name : List ℕ) (links : List Link) → count_of name links ≤ assumed_count links
count_of-most name [] = omega arith
count_of-most name (link ∷ links) = omega (arith, count_in-most name link.mark, count_of-most name links)

-- ---- assumptions that are true

module _ (sig : Signature) (assumed : List ℕ → Option Sides) where
  -- those that are counted are counted by other links too
  pub true_of_fewer : (links more : List Link) → ((name : List ℕ) → 0 < count_of name links → 0 < count_of name more) → AreTrue sig assumed more → AreTrue sig assumed links
  true_of_fewer links more counts are_true name sides counted there = are_true name sides (counts name counted) there

  pub true_before : (links later : List Link) → AreTrue sig assumed (links ++ later) → AreTrue sig assumed links
  true_before links later = true_of_fewer links (links ++ later) (λ name counted. omega (arith, count_of-append name links later))

  pub true_after : (links later : List Link) → AreTrue sig assumed (links ++ later) → AreTrue sig assumed later
  true_after links later = true_of_fewer later (links ++ later) (λ name counted. omega (arith, count_of-append name links later))

  pub true_of_turned : (first : Protocol) (links : List Link) → AreTrue sig assumed (turned_links first links) → AreTrue sig assumed links
  true_of_turned first links = true_of_fewer links (turned_links first links) (λ name counted. omega (arith, count_of-turned name first links))

  pub true_of_none : (links : List Link) → assumed_count links ≡ 0 → AreTrue sig assumed links
  true_of_none links none name sides counted there = absurd (omega (arith, count_of-most name links))

  pub true_of_exact : (chain : Chain) → is_exact chain ≡ true → AreTrue sig assumed chain.links
  true_of_exact chain exact = true_of_none chain.links (eqb-true (assumed_count chain.links) 0 exact)

module _ (sig : Signature) (i : Interface) where
  -- ---- equality at an interface

  pub equal_at_refl : (p : Protocol) → HasInterface sig i p → AreEqualAt sig i p p
  equal_at_refl p typed = equal_refl sig (scope_of (i.inputs ++ i.outputs)) (port_names i.outputs) p typed

  pub equal_at_sym : (p q : Protocol) → AreEqualAt sig i p q → AreEqualAt sig i q p
  equal_at_sym p q h = equal_sym sig (scope_of (i.inputs ++ i.outputs)) (port_names i.outputs) p q h

  pub equal_at_trans : (p q r : Protocol) → AreEqualAt sig i p q → AreEqualAt sig i q r → AreEqualAt sig i p r
  equal_at_trans p q r h k = equal_trans sig (scope_of (i.inputs ++ i.outputs)) (port_names i.outputs) p q r h k

  pub ends_equal : (first : Protocol) (links : List Link) → HasInterface sig i first → EachTwo (λ mark. AreEqualAt sig i) first links → AreEqualAt sig i first (last_of first links)
  ends_equal first [] typed h = equal_at_refl first typed
  ends_equal first (link ∷ links) typed h =
      equal_at_trans first link.term (last_of link.term links) h.0 (ends_equal link.term links h.0.right h.1)

  module _ (assumed : List ℕ → Option Sides) where
    -- ---- chains that mean what they say

    pub mark_turned : (mark : Mark) (p q : Protocol) → MeansMark sig i assumed mark p q → MeansMark sig i assumed (turned_mark mark) q p
    mark_turned (by_rule direction word place) p q h = equal_at_sym p q h
    mark_turned (by_theorem direction name place pairs) p q h = equal_at_sym p q h
    mark_turned (by_assumption lr name place pairs C) p q h = h
    mark_turned (by_assumption rl name place pairs C) p q h = h

    -- one term
    pub means_alone : (first : Protocol) → HasInterface sig i first → ChainMeans sig i assumed (record { first = first; links = [] })
    means_alone first typed = record { typed = (typed, tt); marks = tt; equal = λ are_true. tt }

    -- two neighbours
    pub means_one : (first : Protocol) (link : Link) → HasInterface sig i first → HasInterface sig i link.term → MeansMark sig i assumed link.mark first link.term → (AreTrue sig assumed (link ∷ []) → AreEqualAt sig i first link.term) →
        ChainMeans sig i assumed (record { first = first; links = link ∷ [] })
    means_one first link typed typed' mark equal = record { typed = (typed, (typed', tt)); marks = (mark, tt); equal = λ are_true. (equal are_true, tt) }

    pub means_joined : (first : Protocol) (links later : List Link) → ChainMeans sig i assumed (record { first = first; links = links }) → ChainMeans sig i assumed (record { first = last_of first links; links = later }) →
        ChainMeans sig i assumed (record { first = first; links = links ++ later })
    means_joined first links later means further = record {
      typed = (means.typed.0, all_appended (HasInterface sig i) links later means.typed.1 further.typed.1);
      marks = each_appended (MeansMark sig i assumed) first links later means.marks further.marks;
      equal = λ are_true. each_appended (λ mark. AreEqualAt sig i) first links later (means.equal (true_before sig assumed links later are_true)) (further.equal (true_after sig assumed links later are_true));
    }

    pub means_turned : (chain : Chain) → ChainMeans sig i assumed chain → ChainMeans sig i assumed (turned chain)
    means_turned chain means = record {
      typed = all_turned (HasInterface sig i) chain.first chain.links means.typed.0 means.typed.1;
      marks = each_turned (MeansMark sig i assumed) mark_turned chain.first chain.links means.marks;
      equal = λ are_true. each_turned (λ mark. AreEqualAt sig i) (λ mark. equal_at_sym) chain.first chain.links (means.equal (true_of_turned sig assumed chain.first chain.links are_true));
    }

    pub last_is_typed : (chain : Chain) → ChainMeans sig i assumed chain → HasInterface sig i (last_of chain.first chain.links)
    last_is_typed chain means = all_at_last (HasInterface sig i) chain.first chain.links means.typed.0 means.typed.1

    -- ---- the two ends

    pub ends_equal_where_true : (chain : Chain) → ChainMeans sig i assumed chain → AreTrue sig assumed chain.links → AreEqualAt sig i chain.first (last_of chain.first chain.links)
    ends_equal_where_true chain means are_true = ends_equal chain.first chain.links means.typed.0 (means.equal are_true)

    pub ends_equal_where_exact : (chain : Chain) → ChainMeans sig i assumed chain → is_exact chain ≡ true → AreEqualAt sig i chain.first (last_of chain.first chain.links)
    ends_equal_where_exact chain means exact = ends_equal_where_true chain means (true_of_exact sig assumed chain exact)
