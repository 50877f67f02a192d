-- The reader's state after one step, in the form of the contracts of its methods.
use Rattle.std.proofs.Common.{◌≡◌, ℕ, List, drop, Result, Err, sym, subst, arith}
use Rattle.std.proofs.lemmas.List.{length-drop}
use Rattle.ipdl_tree.specs.declared.character.Beginning.{Beginning}
use Rattle.ipdl_tree.specs.declared.fault.TreeFault.{TreeFault}
use Rattle.ipdl_tree.specs.declared.token.OpenToken.{OpenToken}
use Rattle.ipdl_tree.specs.declared.token.OpenToken.TheVariants as tokens
use Rattle.ipdl_tree.specs.Trees.{Located}
use Rattle.ipdl_tree.specs.Causes.{Cause}
use Rattle.ipdl_tree.specs.Reading.{Reading, IsNameToken, refusal_of_any_beginning, after_beginning, unless, whole}
use Rattle.ipdl_tree.specs.Faults.{Fails, Gives}
use Rattle.ipdl_tree.specs.ReaderViews.{token_view, IsTokenAfter}
use Rattle.ipdl_tree.proofs.Names.{length-is_name}

-- a step from a state, told of an equal one
pub begun : {X : Type 0} (view : X → Reading) (result : Result X TreeFault) (r q : Reading) (n c : ℕ) (b d : Beginning) → r ≡ q → b ≡ d → Gives view result (unless (refusal_of_any_beginning r b) n (after_beginning r n c b)) → Gives view result (unless (refusal_of_any_beginning q d) n (after_beginning q n c d))
begun view result r q n c b d e f given =
    let P : Reading → Type 0 = λ s. Gives view result (unless (refusal_of_any_beginning s b) n (after_beginning s n c b)) in
    let Q : Beginning → Type 0 = λ s. Gives view result (unless (refusal_of_any_beginning q s) n (after_beginning q n c s)) in
    subst Q f (subst P e given)

-- the whole tree of a state, told of an equal one
pub finished : {X : Type 0} (view : X → Located) (result : Result X TreeFault) (r q : Reading) (n : ℕ) → r ≡ q → Gives view result (whole r.groups r.complete n) → Gives view result (whole q.groups q.complete n)
finished view result r q n e given =
    let P : Reading → Type 0 = λ s. Gives view result (whole s.groups s.complete n) in
    subst P e given

-- a name that is open begins within the text
pub IsTokenAfter-from_view : (front : List ℕ) (token : OpenToken) → IsNameToken (token_view front token) → IsTokenAfter front token
IsTokenAfter-from_view front tokens.Nothing h = tt
IsTokenAfter-from_view front tokens.Comment h = tt
IsTokenAfter-from_view front (tokens.Name start) h =
    let some = length-is_name (drop start front) h in
    (omega (arith, some, length-drop start front), h)
IsTokenAfter-from_view front (tokens.Number start value) h = tt
IsTokenAfter-from_view front (tokens.Literal start bits) h = tt

-- and the other way round
pub IsNameToken-from_after : (front : List ℕ) (token : OpenToken) → IsTokenAfter front token → IsNameToken (token_view front token)
IsNameToken-from_after front tokens.Nothing h = tt
IsNameToken-from_after front tokens.Comment h = tt
IsNameToken-from_after front (tokens.Name start) h = h.1
IsNameToken-from_after front (tokens.Number start value) h = tt
IsNameToken-from_after front (tokens.Literal start bits) h = tt

-- a fault that is handed on
pub Gives-from_error : {X Y : Type 0} (view : X → Y) (result : Result X TreeFault) (read : Result Y (ℕ × Cause)) (x e : TreeFault) → result ≡ Err x → x ≡ e → Fails e read → Gives view result read
Gives-from_error {X} view result read x e same_result same_fault fails =
    let P : Result X TreeFault → Type 0 = λ r. Gives view r read in
    let Q : TreeFault → Type 0 = λ y. Fails y read in
    subst P (sym same_result) (subst Q (sym same_fault) fails)

-- the same of an equal reading
pub Gives-same : {X Y : Type 0} (view : X → Y) (result : Result X TreeFault) (read same : Result Y (ℕ × Cause)) → read ≡ same → Gives view result same → Gives view result read
Gives-same {X} {Y} view result read same e given =
    let P : Result Y (ℕ × Cause) → Type 0 = Gives view result in
    subst P (sym e) given

-- a fault that equals another one, of an equal reading
pub Fails-same : {Y : Type 0} (fault equal : TreeFault) (read same : Result Y (ℕ × Cause)) → fault ≡ equal → read ≡ same → Fails equal same → Fails fault read
Fails-same {Y} fault equal read same ef er given =
    let P : Result Y (ℕ × Cause) → Type 0 = Fails fault in
    let Q : TreeFault → Type 0 = λ y. Fails y same in
    subst P (sym er) (subst Q (sym ef) given)
