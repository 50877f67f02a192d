-- The open groups and their trees in one row, through the steps of the reader.
use Rattle.std.proofs.Common.{◌≡◌, ℕ, suc, ◌<◌, ◌≤◌, List, [], ◌∷◌, ◌++◌, length, map, reverse, take, drop, Option, refl, sym, ap, ap₂, ◌∙◌, subst, arith}
use Rattle.std.proofs.Math.Seq.{take-length, drop-length}
use Rattle.std.proofs.lemmas.List.{length-append, drop-append-le, take-append-le, length-reverse, map-append, reverse-append}
use Rattle.ipdl_tree.specs.declared.groups.Opening.{Opening}
use Rattle.ipdl_tree.specs.declared.tree.Tree.{Tree}
use Rattle.ipdl_tree.specs.Trees.{Located}
use Rattle.ipdl_tree.specs.Reading.{no_token, Group, Reading, add_to}
use Rattle.ipdl_tree.specs.Openings.{open_groups, AreWithin, groups_of}
use Rattle.ipdl_tree.specs.Views.{located}

abbrev group_of : ℕ → List Located → Group
group_of start parts = record { start = start; parts = parts }

abbrev between : List Group → Option Located → Reading
between groups complete = record { token = no_token; groups = groups; complete = complete }

-- more trees reach as well
pub AreWithin-more : (gs : List Opening) (n m : ℕ) → n ≤ m → AreWithin gs n → AreWithin gs m
AreWithin-more [] n m more within = tt
AreWithin-more (g ∷ gs) n m more within = (omega (arith, within.0), within.1)

-- as many groups as places
pub length-open_groups : (gs : List Opening) (ts : List Tree) → length (open_groups gs ts) ≡ length gs
length-open_groups [] ts = refl
length-open_groups (g ∷ gs) ts = ap suc (length-open_groups gs (take g.first ts))

-- a group that opens begins behind all trees
pub opened-open_groups : (gs : List Opening) (g : Opening) (ts : List Tree) → g.first ≡ length ts → open_groups (reverse (gs ++ g ∷ [])) ts ≡ group_of g.pos.0 [] ∷ open_groups (reverse gs) ts
opened-open_groups gs g ts here =
    ap (λ rs. open_groups rs ts) (reverse-append gs (g ∷ []))
    ∙ ap₂ (λ n m. group_of g.pos.0 (map located (drop n ts)) ∷ open_groups (reverse gs) (take m ts)) here here
    ∙ ap₂ (λ a b. group_of g.pos.0 (map located a) ∷ open_groups (reverse gs) b) (drop-length ts) (take-length ts)

pub opened-AreWithin : (gs : List Opening) (g : Opening) (n : ℕ) → g.first ≡ n → AreWithin (reverse gs) n → AreWithin (reverse (gs ++ g ∷ [])) n
opened-AreWithin gs g n here within =
    let P : List Opening → Type 0 = λ rs. AreWithin rs n in
    let Q : ℕ → Type 0 = AreWithin (reverse gs) in
    subst P (sym (reverse-append gs (g ∷ []))) (omega (arith, here), subst Q (sym here) within)

-- a tree more is the next one of the innermost group
pub added-open_groups : (gs : List Opening) (ts : List Tree) (t : Tree) (complete : Option Located) → AreWithin gs (length ts) → 0 < length gs → between (open_groups gs (ts ++ t ∷ [])) complete ≡ add_to (located t) (open_groups gs ts) complete
added-open_groups [] ts t complete within some = absurd (omega arith)
added-open_groups (g ∷ gs) ts t complete within some =
    ap₂ (λ a b. between (group_of g.pos.0 (map located a) ∷ open_groups gs b) complete) (drop-append-le g.first ts (t ∷ []) within.0) (take-append-le g.first ts (t ∷ []) within.0)
    ∙ ap (λ ps. between (group_of g.pos.0 ps ∷ open_groups gs (take g.first ts)) complete) (map-append located (drop g.first ts) (t ∷ []))

-- a group that closes takes its trees
pub closed-open_groups : (all gs : List Opening) (g : Opening) (ts taken kept : List Tree) → all ≡ gs ++ g ∷ [] → taken ≡ drop g.first ts → kept ≡ take g.first ts → open_groups (reverse all) ts ≡ group_of g.pos.0 (map located taken) ∷ open_groups (reverse gs) kept
closed-open_groups all gs g ts taken kept here its rest =
    ap (λ rs. open_groups (reverse rs) ts) here
    ∙ ap (λ rs. open_groups rs ts) (reverse-append gs (g ∷ []))
    ∙ sym (ap₂ (λ a b. group_of g.pos.0 (map located a) ∷ open_groups (reverse gs) b) its rest)

pub closed-AreWithin : (all gs : List Opening) (g : Opening) (n : ℕ) → all ≡ gs ++ g ∷ [] → AreWithin (reverse all) n → (g.first ≤ n) × AreWithin (reverse gs) g.first
closed-AreWithin all gs g n here within =
    let P : List Opening → Type 0 = λ rs. AreWithin (reverse rs) n in
    let Q : List Opening → Type 0 = λ rs. AreWithin rs n in
    subst Q (reverse-append gs (g ∷ [])) (subst P here within)

-- the same of the program's openings and trees, told of those before
pub added-groups_of : (gs : List Opening) (ts us : List Tree) (t : Tree) (old : List Opening × List Tree) (complete : Option Located) → (gs, ts) ≡ old → us ≡ ts ++ t ∷ [] → AreWithin (reverse gs) (length ts) → 0 < length (groups_of old) → between (groups_of (gs, us)) complete ≡ add_to (located t) (groups_of old) complete
added-groups_of gs ts us t old complete here more within some =
    let P : List Opening × List Tree → Type 0 = λ g. 0 < length (groups_of g) → between (groups_of (gs, us)) complete ≡ add_to (located t) (groups_of g) complete in
    let some_of : 0 < length (groups_of (gs, ts)) → 0 < length (reverse gs) = λ n. omega (arith, n, length-open_groups (reverse gs) ts) in
    subst P here (λ n. ap (λ xs. between (groups_of (gs, xs)) complete) more ∙ added-open_groups (reverse gs) ts t complete within (some_of n)) some

pub added-AreWithin : (gs : List Opening) (ts us : List Tree) (t : Tree) → us ≡ ts ++ t ∷ [] → AreWithin gs (length ts) → AreWithin gs (length us)
added-AreWithin gs ts us t more within = AreWithin-more gs (length ts) (length us) (omega (arith, ap length more, length-append ts (t ∷ []))) within

-- a group that is off while its trees stay
pub off-AreWithin : (all gs : List Opening) (g : Opening) (n : ℕ) → all ≡ gs ++ g ∷ [] → AreWithin (reverse all) n → AreWithin (reverse gs) n
off-AreWithin all gs g n here within =
    let its = closed-AreWithin all gs g n here within in
    AreWithin-more (reverse gs) g.first n its.0 its.1

pub length-groups_of : (gs : List Opening) (ts : List Tree) (old : List Opening × List Tree) → (gs, ts) ≡ old → length (groups_of old) ≡ length gs
length-groups_of gs ts old here =
    let P : List Opening × List Tree → Type 0 = λ g. length (groups_of g) ≡ length gs in
    subst P here (length-open_groups (reverse gs) ts ∙ length-reverse gs)
