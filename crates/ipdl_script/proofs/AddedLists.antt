-- Lists of whole terms that are added: their tests, their links, and the last of them.
use Rattle.std.proofs.Common.{◌≡◌, ℕ, zero, suc, ◌+◌, ◌-◌, ◌<◌, Bool, true, false, List, [], ◌∷◌, ◌++◌, length, map, take, drop, get_or, Option, Some, None, refl, sym, ap, ap₂, ◌∙◌, subst, arith}
use Rattle.std.proofs.lemmas.List.{at_drop_more, length-append, map-append, take_more}
use Rattle.std.proofs.lemmas.List.Elements.{All-head, All-tail}
use Rattle.std.specs.List.{slice_get}
use Rattle.std.specs.Option.{option_or}
use Rattle.std.specs.Prelude.{All, nat_eq, if◌then◌else◌}
use Rattle.ipdl_chain.specs.Chains.{Link, Chain, last_of, turned_links, turned_mark, assumed_count}
use Rattle.ipdl_chain.specs.Views.{mark_of, links_of}
use Rattle.ipdl_chain.specs.declared.chain.Mark.{Mark as HeldMark}
use Rattle.ipdl_script.proofs.Refusals.{first_refusal-append, told_first}
use Rattle.ipdl_script.specs.Adding.{last_among}
use Rattle.ipdl_script.specs.Answers.{TellsRefusal}
use Rattle.ipdl_script.specs.Steps.{Refusal, nodes_test, channels_test, depth_test, extent_tests, first_refusal}
use Rattle.ipdl_script.specs.declared.fault.StepFault.{StepFault}
use Rattle.ipdl_term.specs.Steps.{Direction, lr, rl}
use Rattle.ipdl_term.specs.Terms.{Protocol}
use Rattle.ipdl_term.specs.Views.{protocol_of}
use Rattle.ipdl_term.specs.declared.protocol.Proto.{Proto}
use Rattle.ipdl_uses.specs.Adding.{links_by}
use Rattle.ipdl_uses.specs.Lemmas.{is_exact}
use Rattle.ipdl_uses.specs.Uses.{Use, instance_links, all_neighbours, one_neighbour, given_neighbours, used}

-- ---- the tests of each

-- the first term is tested first
extents_of_first : (term : Protocol) (terms : List Protocol) → first_refusal (extent_tests (term ∷ terms)) ≡ option_or (first_refusal (extent_tests (term ∷ []))) (first_refusal (extent_tests terms))
extents_of_first term terms = first_refusal-append (nodes_test term ∷ channels_test term ∷ depth_test term ∷ []) (extent_tests terms)

module _ {X : Type 0} (f : X → Protocol) (xs : List X) (i : ℕ) (x : X) (within : i < length xs) (at : x ≡ get_or xs i x) where
  split_at : map f (drop i xs) ≡ f x ∷ map f (drop (i + 1) xs)
  split_at = at_drop_more (map f) xs i x within ∙ ap (λ y. f y ∷ map f (drop (i + 1) xs)) (sym at)

  -- of the terms that are left the next one is tested first
  extents_of_next : (all : Option Refusal) → all ≡ first_refusal (extent_tests (map f (drop i xs))) →
      all ≡ option_or (first_refusal (extent_tests (f x ∷ []))) (first_refusal (extent_tests (map f (drop (i + 1) xs))))
  extents_of_next all e = e ∙ ap (λ terms. first_refusal (extent_tests terms)) split_at ∙ extents_of_first (f x) (map f (drop (i + 1) xs))

  pub told_of_next : (fault : StepFault) (all : Option Refusal) → all ≡ first_refusal (extent_tests (map f (drop i xs))) → TellsRefusal fault (first_refusal (extent_tests (f x ∷ []))) → TellsRefusal fault all
  told_of_next fault all e h = subst (TellsRefusal fault) (sym (extents_of_next all e)) (told_first fault _ _ h)

  pub extents_of_later : (all : Option Refusal) → all ≡ first_refusal (extent_tests (map f (drop i xs))) → first_refusal (extent_tests (f x ∷ [])) ≡ None →
      all ≡ first_refusal (extent_tests (map f (drop (i + 1) xs)))
  extents_of_later all e passed = extents_of_next all e ∙ ap (λ t. option_or t (first_refusal (extent_tests (map f (drop (i + 1) xs))))) passed

  -- one more of them is made
  pub made_one_more : (g : Proto → Protocol) (old new : List Proto) (y : Proto) → new ≡ old ++ y ∷ [] → g y ≡ f x → map g old ≡ map f (take i xs) → map g new ≡ map f (take (i + 1) xs)
  made_one_more g old new y pushed same so_far =
      ap (map g) pushed ∙ map-append g old (y ∷ []) ∙ ap₂ (λ terms term. terms ++ term ∷ []) so_far same
      ∙ sym (ap (map f) (take_more xs i x within) ∙ map-append f (take i xs) (get_or xs i x ∷ []) ∙ ap (λ z. map f (take i xs) ++ f z ∷ []) (sym at))

-- ---- the last one

last_is : (before : Protocol) (terms : List Proto) (k : ℕ) (last : Proto) → length terms ≡ suc k → Some last ≡ slice_get terms k → protocol_of last ≡ last_among before (map protocol_of terms)
last_is before [] k last h e = absurd (omega arith)
last_is before (t ∷ []) zero last h e = let same : last ≡ t = cc in ap protocol_of same
last_is before (t ∷ []) (suc k) last h e = absurd (omega arith)
last_is before (t ∷ u ∷ us) zero last h e = absurd (omega arith)
last_is before (t ∷ u ∷ us) (suc k) last h e = let l : length (u ∷ us) ≡ suc k = omega arith in last_is (protocol_of t) (u ∷ us) k last l e

pub last_found : (before : Protocol) (terms : List Proto) (last : Proto) → Some last ≡ slice_get terms (length terms - 1) → protocol_of last ≡ last_among before (map protocol_of terms)
last_found before [] last e = cc
last_found before (t ∷ ts) last e =
    let n : length (t ∷ ts) - 1 ≡ length ts = omega arith in
    last_is before (t ∷ ts) (length ts) last refl (e ∙ ap (slice_get (t ∷ ts)) n)

-- what holds of each, and of the one before them, holds of the last
pub holds_of_last : (P : Protocol → Type 0) (before : Protocol) (terms : List Proto) → P before → All (λ term. P (protocol_of term)) terms → P (last_among before (map protocol_of terms))
holds_of_last P before [] first each = first
holds_of_last P before (t ∷ ts) first each =
    holds_of_last P (protocol_of t) ts (All-head (λ (term : Proto). P (protocol_of term)) t ts each) (All-tail (λ (term : Proto). P (protocol_of term)) t ts each)

pub last_of_links : (before : Protocol) (links : List Link) → last_of before links ≡ last_among before (map (λ (link : Link). link.term) links)
last_of_links before [] = refl
last_of_links before (link ∷ links) = last_of_links link.term links

-- where there are links the first term is not looked at
pub last_of-later : (first other : Protocol) (links : List Link) → 0 < length links → last_of first links ≡ last_of other links
last_of-later first other [] h = absurd (omega arith)
last_of-later first other (link ∷ links) h = refl

-- ---- links

pub terms_of_links_by : (marks : List HeldMark) (terms : List Protocol) → length terms ≡ length marks → map (λ (link : Link). link.term) (links_by marks terms) ≡ terms
terms_of_links_by [] [] h = refl
terms_of_links_by [] (t ∷ ts) h = absurd (omega arith)
terms_of_links_by (m ∷ ms) [] h = absurd (omega arith)
terms_of_links_by (m ∷ ms) (t ∷ ts) h = let k : length ts ≡ length ms = omega arith in ap (λ terms. t ∷ terms) (terms_of_links_by ms ts k)

pub links_of-by : (marks : List HeldMark) (terms : List Proto) → length terms ≡ length marks → links_of marks terms ≡ links_by marks (map protocol_of terms)
links_of-by [] [] h = refl
links_of-by [] (t ∷ ts) h = absurd (omega arith)
links_of-by (m ∷ ms) [] h = absurd (omega arith)
links_of-by (m ∷ ms) (t ∷ ts) h =
    let k : length ts ≡ length ms = omega arith in
    ap (λ (links : List Link). record { mark = mark_of m; term = protocol_of t } ∷ links) (links_of-by ms ts k)

-- ---- each use gives links

length-instance_links : (u : Use) (upper : Protocol) (links : List Link) → length (instance_links u upper links) ≡ length links
length-instance_links u upper [] = refl
length-instance_links u upper (link ∷ links) = ap suc (length-instance_links u link.term links)

length-turned_links : (term : Protocol) (links : List Link) → length (turned_links term links) ≡ length links
length-turned_links term [] = refl
length-turned_links term (link ∷ links) =
    let inner = length-turned_links link.term links in
    let all = length-append (turned_links link.term links) (record { mark = turned_mark link.mark; term = term } ∷ []) in
    omega (arith, inner, all)

counted-some : (links : List Link) → nat_eq (assumed_count links) 0 ≡ false → 0 < length links
counted-some [] h = cc
counted-some (link ∷ links) h = omega arith

module _ (u : Use) (chain : Chain) where
  given-some : 0 < length (given_neighbours u chain).links
  given-some = go (is_exact chain) refl
    where
      go : (b : Bool) → is_exact chain ≡ b → 0 < length (if b then one_neighbour u chain else all_neighbours u chain).links
      go true h = omega arith
      go false h = let some = counted-some chain.links h in let all = length-instance_links u chain.first chain.links in omega (arith, some, all)

  pub used-some : (direction : Direction) → 0 < length (used direction u chain).links
  used-some lr = given-some
  used-some rl =
      let some = given-some in
      let given = given_neighbours u chain in
      let all = length-turned_links given.first given.links in omega (arith, some, all)
