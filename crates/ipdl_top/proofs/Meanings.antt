-- What the theorems of an accepted document claim is true: each chain means what it says, and so its two sides are equal
-- where it counts no assumption, and where those that it counts are true.
use Rattle.std.proofs.Common.{◌≡◌, ℕ, zero, suc, ◌+◌, Bool, true, false, List, [], ◌∷◌, ◌++◌, take, Option, Some, None, refl, sym, subst, ◌∙◌}
use Rattle.std.proofs.lemmas.Option.{same_Some}
use Rattle.std.specs.List.{AllByRecursion}
use Rattle.std.specs.Option.{option_or}
use Rattle.std.specs.Prelude.{bytes_eq, if◌then◌else◌, option_map, slice_get}
use Rattle.ipdl_chain.specs.Chains.{Chain}
use Rattle.ipdl_forms.specs.Documents.{Document, Entry, symbol_entry, protocol_entry, assumption_entry, theorem_entry}
use Rattle.ipdl_forms.specs.Networks.{Network, network_named}
use Rattle.ipdl_rules_r.specs.Tables.{TablesAreWhole}
use Rattle.ipdl_script.proofs.MeaningLaws.{chain_means, chain_ends}
use Rattle.ipdl_script.specs.Known.{Proved, sides_between, sides_among, sides_named, assumed_lemma, proved_lemma, theorem_named, lemma_among}
use Rattle.ipdl_script.specs.Meanings.{LemmasMean}
use Rattle.ipdl_script.specs.Steps.{Setting, assumed_in}
use Rattle.ipdl_sig.specs.declared.symbol.Symbol.{Symbol}
use Rattle.ipdl_term.specs.Steps.{Step}
use Rattle.ipdl_tree.specs.Trees.{Located}
use Rattle.ipdl_typing.specs.Signatures.{signature_of}
use Rattle.ipdl_uses.proofs.Assumptions.{assumption_means}
use Rattle.ipdl_uses.proofs.Chains.{ends_equal_where_true, ends_equal_where_exact}
use Rattle.ipdl_uses.specs.Lemmas.{Lemma, right_of}
use Rattle.ipdl_uses.specs.Meanings.{AreEqualAt, AreTypedSides, ChainMeans, Sides}
use Rattle.ipdl_top.proofs.Fitting.{IsFitNetwork, AreFitNetworks, IsFitNetwork-named, AreFitNetworks-spelled, HasInterface-across}
use Rattle.ipdl_top.proofs.WholeTables.{TablesAreWhole-spelled}
use Rattle.ipdl_top.specs.Chains.{Claim, claim_between, claim_of, claim_chain, proved_by, theorems_with, theorems_after, item_neighbours}
use Rattle.ipdl_top.specs.Meanings.{HasMeantNeighbours, HasEqualSidesIfExact, HasEqualSidesIfTrue, IsSoOfClaim, IsSoOfItem, IsSoOfTheorems}
use Rattle.ipdl_top.specs.Requests.{check}
use Rattle.ipdl_top.specs.Runs.{IsAnswered}
use Rattle.ipdl_top.specs.Scripts.{HasChain, IsProvedItem, AreProved}
use Rattle.ipdl_top.specs.Typed.{HaveSamePorts, IsTypedItem, AreTyped}

-- the chain means what it says, and leads to the right protocol
record IsMeant (claim : Claim) : Type 0 where
  means : ChainMeans claim.setting.sig claim.setting.interface (assumed_in claim.setting) (claim_chain claim)
  ends : right_of (claim_chain claim) ≡ claim.theorem.right

module _ (symbols : List Symbol) (entries : List Entry) (whole : TablesAreWhole (signature_of symbols)) (fit : AreFitNetworks symbols entries) where
  -- ---- assumptions

  -- both sides have the interface of the left one
  typed_between : (from to : Option Network) → ((n : Network) → from ≡ Some n → IsFitNetwork symbols n) → ((n : Network) → to ≡ Some n → IsFitNetwork symbols n) → HaveSamePorts from to → (sides : Sides) → sides_between from to ≡ Some sides → AreTypedSides (signature_of symbols) sides
  typed_between None to fits fits' same sides e = absurd same
  typed_between (Some from) None fits fits' same sides e = absurd same
  typed_between (Some from) (Some to) fits fits' same sides e =
      subst (AreTypedSides (signature_of symbols)) (same_Some _ sides e)
      (record {
        left = (fits from refl).typed;
        right = HasInterface-across symbols from to (fits from refl) (fits' to refl) same;
      })

  one_of : (b : Bool) (first later : Option Sides) (sides : Sides) (P : Type 0) → (first ≡ Some sides → P) → (later ≡ Some sides → P) → (if b then first else later) ≡ Some sides → P
  one_of true first later sides P f g e = f e
  one_of false first later sides P f g e = g e

  typed_among : (items : List Entry) → AreTyped symbols entries items → (name : List ℕ) (sides : Sides) → sides_among entries items name ≡ Some sides → AreTypedSides (signature_of symbols) sides
  typed_among [] typed name sides e = cc
  typed_among (symbol_entry n s ∷ items) typed name sides e = typed_among items typed.1 name sides e
  typed_among (protocol_entry other interface body ∷ items) typed name sides e = typed_among items typed.1 name sides e
  typed_among (theorem_entry other left right lefts rights ∷ items) typed name sides e = typed_among items typed.1 name sides e
  typed_among (assumption_entry other left right ∷ items) typed name sides e =
      one_of (bytes_eq other name) (sides_between (network_named entries left) (network_named entries right)) (sides_among entries items name) sides _
      (typed_between (network_named entries left) (network_named entries right) (IsFitNetwork-named symbols entries left fit) (IsFitNetwork-named symbols entries right fit) typed.0 sides)
      (typed_among items typed.1 name sides) e

  -- ---- theorems that were proved

  -- the chain of the theorem means what it says at the interface of its left protocol
  abbrev IsMeantProved : Proved → Type 0
  IsMeantProved theorem =
      (n : Network) → network_named entries theorem.left ≡ Some n → ChainMeans (signature_of symbols) n.interface (sides_named entries) theorem.chain

  all_before : (before : List Proved) (theorem : Proved) → AllByRecursion IsMeantProved before → IsMeantProved theorem → AllByRecursion IsMeantProved (before ++ theorem ∷ [])
  all_before [] theorem means last = (last, tt)
  all_before (first ∷ before) theorem means last = (means.0, all_before before theorem means.1 last)

  all_with : (before : List Proved) (found : Option Claim) → AllByRecursion IsMeantProved before → AllByRecursion IsMeantProved (proved_by found) → AllByRecursion IsMeantProved (before ++ proved_by found)
  all_with [] found means last = last
  all_with (first ∷ before) found means last = (means.0, all_with before found means.1 last)

  -- ---- what may be used

  lemma_of_network : (theorem : Proved) (found : Option Network) → found ≡ network_named entries theorem.left → IsMeantProved theorem → (lemma : Lemma) → option_map (proved_lemma theorem.chain) found ≡ Some lemma → ChainMeans (signature_of symbols) lemma.interface (sides_named entries) lemma.chain
  lemma_of_network theorem None is means lemma e = cc
  lemma_of_network theorem (Some n) is means lemma e =
      subst (λ (l : Lemma). ChainMeans (signature_of symbols) l.interface (sides_named entries) l.chain) (same_Some _ lemma e) (means n (sym is))

  either : (b : Bool) (first later : Option Lemma) (lemma : Lemma) (P : Type 0) → (first ≡ Some lemma → P) → (later ≡ Some lemma → P) → (if b then first else later) ≡ Some lemma → P
  either true first later lemma P f g e = f e
  either false first later lemma P f g e = g e

  theorem_means : (theorems : List Proved) → AllByRecursion IsMeantProved theorems → (name : List ℕ) (lemma : Lemma) → theorem_named entries theorems name ≡ Some lemma → ChainMeans (signature_of symbols) lemma.interface (sides_named entries) lemma.chain
  theorem_means [] means name lemma e = cc
  theorem_means (theorem ∷ theorems) means name lemma e =
      either (bytes_eq theorem.name name) (option_map (proved_lemma theorem.chain) (network_named entries theorem.left)) (theorem_named entries theorems name) lemma _
      (lemma_of_network theorem (network_named entries theorem.left) refl means.0 lemma)
      (theorem_means theorems means.1 name lemma) e

  assumed_or : (name : List ℕ) (found : Option Sides) → found ≡ sides_named entries name → ((sides : Sides) → found ≡ Some sides → AreTypedSides (signature_of symbols) sides) → (later : Option Lemma) (lemma : Lemma) → (later ≡ Some lemma → ChainMeans (signature_of symbols) lemma.interface (sides_named entries) lemma.chain) → option_or (option_map (assumed_lemma name) found) later ≡ Some lemma → ChainMeans (signature_of symbols) lemma.interface (sides_named entries) lemma.chain
  assumed_or name None is typed later lemma more e = more e
  assumed_or name (Some sides) is typed later lemma more e =
      subst (λ (l : Lemma). ChainMeans (signature_of symbols) l.interface (sides_named entries) l.chain) (same_Some _ lemma e)
      (assumption_means (signature_of symbols) (sides_named entries) name sides (sym is) (typed sides refl))

  lemmas_mean : AreTyped symbols entries entries → (theorems : List Proved) → AllByRecursion IsMeantProved theorems → (name : List ℕ) (lemma : Lemma) → lemma_among entries theorems name ≡ Some lemma → ChainMeans (signature_of symbols) lemma.interface (sides_named entries) lemma.chain
  lemmas_mean typed theorems means name lemma =
      assumed_or name (sides_named entries name) refl (typed_among entries typed name) (theorem_named entries theorems name) lemma (theorem_means theorems means name lemma)

  -- ---- items

  module _ (typed : AreTyped symbols entries entries) where
    claim_means : (theorems : List Proved) → AllByRecursion IsMeantProved theorems → (neighbours : ℕ) (name left right : List ℕ) (lefts rights : List Step) (from to : Network) → IsFitNetwork symbols from → IsFitNetwork symbols to → HaveSamePorts (Some from) (Some to) → HasChain neighbours (claim_between symbols entries theorems name left right lefts rights (Some from) (Some to)) → IsSoOfClaim IsMeant (claim_between symbols entries theorems name left right lefts rights (Some from) (Some to))
    claim_means theorems means neighbours name left right lefts rights from to fits fits' same has =
        record {
          means = chain_means _ neighbours _ _ has whole (lemmas_mean typed theorems means) fits.typed (HasInterface-across symbols from to fits fits' same);
          ends = chain_ends _ neighbours _ _ has;
        }

    between_means : (theorems : List Proved) → AllByRecursion IsMeantProved theorems → (neighbours : ℕ) (name left right : List ℕ) (lefts rights : List Step) (from to : Option Network) → ((n : Network) → from ≡ Some n → IsFitNetwork symbols n) → ((n : Network) → to ≡ Some n → IsFitNetwork symbols n) → HaveSamePorts from to → HasChain neighbours (claim_between symbols entries theorems name left right lefts rights from to) → IsSoOfClaim IsMeant (claim_between symbols entries theorems name left right lefts rights from to)
    between_means theorems means neighbours name left right lefts rights None to fits fits' same has = absurd has
    between_means theorems means neighbours name left right lefts rights (Some from) None fits fits' same has = absurd has
    between_means theorems means neighbours name left right lefts rights (Some from) (Some to) fits fits' same has =
        claim_means theorems means neighbours name left right lefts rights from to (fits from refl) (fits' to refl) same has

    item_means : (theorems : List Proved) → AllByRecursion IsMeantProved theorems → (neighbours : ℕ) (item : Entry) → IsTypedItem symbols entries item → IsProvedItem symbols entries theorems neighbours item → IsSoOfItem IsMeant symbols entries theorems item
    item_means theorems means neighbours (symbol_entry n s) same proved = tt
    item_means theorems means neighbours (protocol_entry name interface body) same proved = tt
    item_means theorems means neighbours (assumption_entry name left right) same proved = tt
    item_means theorems means neighbours (theorem_entry name left right lefts rights) same proved =
        between_means theorems means neighbours name left right lefts rights (network_named entries left) (network_named entries right)
        (IsFitNetwork-named symbols entries left fit) (IsFitNetwork-named symbols entries right fit) same proved

    -- at the interface of the network that is found
    means_at : (chain : Chain) (from n : Network) → from ≡ n → ChainMeans (signature_of symbols) from.interface (sides_named entries) chain → ChainMeans (signature_of symbols) n.interface (sides_named entries) chain
    means_at chain from n same means = subst (λ (m : Network). ChainMeans (signature_of symbols) m.interface (sides_named entries) chain) same means

    -- so the theorem of the claim is one of those that mean what they say
    proved_means : (theorems : List Proved) (name left right : List ℕ) (lefts rights : List Step) (from to : Option Network) → network_named entries left ≡ from → IsSoOfClaim IsMeant (claim_between symbols entries theorems name left right lefts rights from to) → AllByRecursion IsMeantProved (proved_by (claim_between symbols entries theorems name left right lefts rights from to))
    proved_means theorems name left right lefts rights None to is meant = absurd meant
    proved_means theorems name left right lefts rights (Some from) None is meant = absurd meant
    proved_means theorems name left right lefts rights (Some from) (Some to) is meant = (
      λ n e. means_at _ from n (same_Some from n (sym is ∙ e)) meant.means,
      tt,
    )

    with_item : (theorems : List Proved) → AllByRecursion IsMeantProved theorems → (item : Entry) → IsSoOfItem IsMeant symbols entries theorems item → AllByRecursion IsMeantProved (theorems_with symbols entries theorems item)
    with_item theorems means (symbol_entry n s) meant = all_with theorems None means tt
    with_item theorems means (protocol_entry name interface body) meant = all_with theorems None means tt
    with_item theorems means (assumption_entry name left right) meant = all_with theorems None means tt
    with_item theorems means (theorem_entry name left right lefts rights) meant =
        all_with theorems (claim_of symbols entries theorems (theorem_entry name left right lefts rights)) means
        (proved_means theorems name left right lefts rights (network_named entries left) (network_named entries right) refl meant)

    items_mean : (theorems : List Proved) → AllByRecursion IsMeantProved theorems → (neighbours : ℕ) (items : List Entry) → AreTyped symbols entries items → AreProved symbols entries theorems neighbours items → (index : ℕ) (item : Entry) → slice_get items index ≡ Some item → IsSoOfItem IsMeant symbols entries (theorems_after symbols entries theorems (take index items)) item
    items_mean theorems means neighbours [] same proved index item there = cc
    items_mean theorems means neighbours (x ∷ items) same proved zero item there =
        subst (IsSoOfItem IsMeant symbols entries theorems) (same_Some x item there) (item_means theorems means neighbours x same.0 proved.0)
    items_mean theorems means neighbours (x ∷ items) same proved (suc index) item there =
        items_mean (theorems_with symbols entries theorems x) (with_item theorems means x (item_means theorems means neighbours x same.0 proved.0)) (neighbours + item_neighbours symbols entries theorems x) items same.1 proved.1 index item there

-- ---- each by itself

claim_weaker : (P Q : Claim → Type 0) → ((claim : Claim) → P claim → Q claim) → (found : Option Claim) → IsSoOfClaim P found → IsSoOfClaim Q found
claim_weaker P Q f None is = absurd is
claim_weaker P Q f (Some claim) is = f claim is

item_weaker : (P Q : Claim → Type 0) → ((claim : Claim) → P claim → Q claim) → (symbols : List Symbol) (entries : List Entry) (theorems : List Proved) (item : Entry) → IsSoOfItem P symbols entries theorems item → IsSoOfItem Q symbols entries theorems item
item_weaker P Q f symbols entries theorems (symbol_entry n s) is = tt
item_weaker P Q f symbols entries theorems (protocol_entry name interface body) is = tt
item_weaker P Q f symbols entries theorems (assumption_entry name left right) is = tt
item_weaker P Q f symbols entries theorems (theorem_entry name left right lefts rights) is =
    claim_weaker P Q f (claim_of symbols entries theorems (theorem_entry name left right lefts rights)) is

answered_means : (bytes : List ℕ) (t : Located) (d : Document) (text : List ℕ) → IsAnswered check bytes t d text → IsSoOfTheorems IsMeant d
answered_means bytes t d text answered =
    items_mean d.symbols d.entries (TablesAreWhole-spelled d t answered.document.spelled)
    (AreFitNetworks-spelled d t answered.document.spelled answered.document.within answered.answer.typed)
    answered.answer.typed [] tt 0 d.entries answered.answer.typed answered.answer.proved

so_of_answered : (Q : Claim → Type 0) → ((claim : Claim) → IsMeant claim → Q claim) → (bytes : List ℕ) (t : Located) (d : Document) (text : List ℕ) → IsAnswered check bytes t d text → IsSoOfTheorems Q d
so_of_answered Q f bytes t d text answered index item there =
    item_weaker IsMeant Q f d.symbols d.entries _ item (answered_means bytes t d text answered index item there)

-- from the left end to the right protocol
to_right : (claim : Claim) → IsMeant claim → AreEqualAt claim.setting.sig claim.setting.interface claim.theorem.left (right_of (claim_chain claim)) → AreEqualAt claim.setting.sig claim.setting.interface claim.theorem.left claim.theorem.right
to_right claim meant = subst (AreEqualAt claim.setting.sig claim.setting.interface claim.theorem.left) meant.ends

pub neighbours_of_answered : (bytes : List ℕ) (t : Located) (d : Document) (text : List ℕ) → IsAnswered check bytes t d text → IsSoOfTheorems HasMeantNeighbours d
neighbours_of_answered = so_of_answered HasMeantNeighbours (λ claim meant. meant.means.marks)

pub exact_sides_of_answered : (bytes : List ℕ) (t : Located) (d : Document) (text : List ℕ) → IsAnswered check bytes t d text → IsSoOfTheorems HasEqualSidesIfExact d
exact_sides_of_answered =
    so_of_answered HasEqualSidesIfExact
    (λ claim meant exact. to_right claim meant (ends_equal_where_exact claim.setting.sig claim.setting.interface (assumed_in claim.setting) (claim_chain claim) meant.means exact))

pub sides_of_answered : (bytes : List ℕ) (t : Located) (d : Document) (text : List ℕ) → IsAnswered check bytes t d text → IsSoOfTheorems HasEqualSidesIfTrue d
sides_of_answered =
    so_of_answered HasEqualSidesIfTrue
    (λ claim meant are_true. to_right claim meant (ends_equal_where_true claim.setting.sig claim.setting.interface (assumed_in claim.setting) (claim_chain claim) meant.means are_true))
