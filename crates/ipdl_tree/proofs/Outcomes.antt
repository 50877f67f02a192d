-- What reading and writing a tree ensure, from what reading on lists gives.
use Rattle.std.proofs.Common.{◌≡◌, ℕ, List, Some, None, Result, Ok, Err, IfOk, OnOk, refl, sym, ap, ◌∙◌, subst, arith}
use Rattle.std.specs.Prelude.{IfErr, option_map}
use Rattle.ipdl_base.specs.declared.limit.Pos.{Pos}
use Rattle.ipdl_tree.specs.declared.fault.SpellCause.{SpellCause}
use Rattle.ipdl_tree.specs.declared.fault.SpellCause.TheVariants.{BadByte, BadName, Unclosed, Extra, NoText}
use Rattle.ipdl_tree.specs.declared.fault.TreeFault.{TreeFault}
use Rattle.ipdl_tree.specs.declared.fault.TreeFault.TheVariants.{Spell, Deep, Memory}
use Rattle.ipdl_tree.specs.declared.tree.Tree.{Tree}
use Rattle.ipdl_tree.specs.Trees.{Located, without_offsets, IsShallow}
use Rattle.ipdl_tree.specs.Reading.{read_source}
use Rattle.ipdl_tree.specs.Refusals.{error_of, refusal}
use Rattle.ipdl_tree.specs.Spelling.{SpellsSource, tree_text}
use Rattle.ipdl_tree.specs.Faults.{fault_of, IsFaultOf, cause_of, Gives}
use Rattle.ipdl_tree.specs.Views.{located}
use Rattle.ipdl_tree.specs.WellFormed.{IsWellFormed}
use Rattle.ipdl_tree.proofs.Sound.{read_source-shallow}
use Rattle.ipdl_tree.proofs.Sources.{spelled-read_source, refusal-read_source, not_refused-spelled}
use Rattle.ipdl_tree.proofs.ReadBack.{SpellsSource-tree_text, depth_of-same}

-- ---- reading

-- a tree that is read is spelled by the source
pub spelled : (result : Result Tree TreeFault) (source : List ℕ) → Gives located result (read_source source) → IfOk result (λ t. SpellsSource (located t) source)
spelled (Ok t) source given = spelled-read_source source (located t) given
spelled (Err e) source given = tt

-- it is not too deep
pub shallow : (result : Result Tree TreeFault) (source : List ℕ) → Gives located result (read_source source) → IfOk result (λ t. IsShallow (located t))
shallow (Ok t) source given = read_source-shallow source (located t) given
shallow (Err e) source given = tt

-- its source has no refusal
pub accepted : (result : Result Tree TreeFault) (source : List ℕ) → Gives located result (read_source source) → OnOk result (refusal source ≡ None)
accepted (Ok t) source given = refusal-read_source source ∙ ap error_of given
accepted (Err e) source given = tt

fault_of-cause_of : (p : Pos) (cause : SpellCause) → fault_of (p.0, cause_of cause) ≡ Spell p cause
fault_of-cause_of p BadByte = refl
fault_of-cause_of p BadName = refl
fault_of-cause_of p Unclosed = refl
fault_of-cause_of p Extra = refl
fault_of-cause_of p NoText = refl

-- a fault is that of the refusal
pub refused : (result : Result Tree TreeFault) (source : List ℕ) → Gives located result (read_source source) → IfErr result (IsFaultOf (refusal source))
refused (Ok t) source given = tt
refused (Err Memory) source given = tt
refused (Err (Spell p cause)) source given =
    ap (option_map fault_of) (refusal-read_source source ∙ ap error_of given) ∙ ap Some (fault_of-cause_of p cause)
refused (Err (Deep p)) source given = ap (option_map fault_of) (refusal-read_source source ∙ ap error_of given)

-- ---- writing

-- the spelling that is written is read again
pub written_is_read : (t : Located) → IsWellFormed t → IsShallow t → (refusal (tree_text t) ≡ None) × ((u : Located) × SpellsSource u (tree_text t) × (without_offsets u ≡ without_offsets t))
written_is_read t well depth =
    let p = SpellsSource-tree_text t well in
    (not_refused-spelled (tree_text t) p.0 p.1 (omega (arith, depth_of-same p.0 t p.2)), p)

-- the same of the text that was written
pub read_back : (t : Located) (text : List ℕ) → IsWellFormed t → text ≡ tree_text t → IsShallow t → (refusal text ≡ None) × ((u : Located) × SpellsSource u text × (without_offsets u ≡ without_offsets t))
read_back t text well e shallow =
    let P : List ℕ → Type 0 = λ x. (refusal x ≡ None) × ((u : Located) × SpellsSource u x × (without_offsets u ≡ without_offsets t)) in
    subst P (sym e) (written_is_read t well shallow)
