-- Trails: the whole terms of one side as the program holds them, and what they stand for.
use Rattle.std.specs.Prelude.{◌≡◌, ℕ, suc, List, [], ◌∷◌, ◌++◌, length, All}
use Rattle.ipdl_chain.specs.Chains.{Link, last_of, turned_mark}
use Rattle.ipdl_chain.specs.Views.{IsMarkWithin, mark_of, first_of, others_of, links_of}
use Rattle.ipdl_chain.specs.declared.chain.Mark.{Mark as HeldMark}
use Rattle.ipdl_script.specs.Fitting.{WholeFits}
use Rattle.ipdl_script.specs.Steps.{Setting}
use Rattle.ipdl_script.specs.declared.trail.Trail.{Trail}
use Rattle.ipdl_term.specs.Steps.{Step, plain, rev, invoke}
use Rattle.ipdl_term.specs.Terms.{Protocol}
use Rattle.ipdl_term.specs.Views.{protocol_of}
use Rattle.ipdl_term.specs.Within.{IsProtocolWithin}
use Rattle.ipdl_term.specs.declared.protocol.Proto.{Proto}

-- the term that the side begins with
abbrev pub trail_first : Trail → Protocol
trail_first trail = first_of trail.terms

-- the further ones, each with its mark
abbrev pub trail_links : Trail → List Link
trail_links trail = links_of trail.marks (others_of trail.terms)

-- the term that it has come to
abbrev pub trail_end : Trail → Protocol
trail_end trail = last_of (trail_first trail) (trail_links trail)

-- There is one term more than marks, and all can be printed.
pub record IsTrailWithin (symbols : ℕ) (trail : Trail) : Type 0 where
  pub paired : length trail.terms ≡ suc (length trail.marks)
  pub terms : All (λ term. IsProtocolWithin symbols (protocol_of term)) trail.terms
  pub marks : All (λ mark. IsMarkWithin symbols mark) trail.marks

-- Besides, the last term fits.
pub record IsTrail (x : Setting) (trail : Trail) : Type 0 where
  pub within : IsTrailWithin (length x.sig) trail
  pub end : WholeFits x (trail_end trail)

-- the step is by a rule, which its mark names
abbrev pub IsByRule : Step → Type 0
IsByRule (plain place rule) = Unit {0}
IsByRule (rev place rule term) = Unit {0}
IsByRule (invoke place name direction pairs) = ⊥

-- the links from the last of as many terms as marks back to the first one, where one term more follows
abbrev pub back_links : List HeldMark → List Proto → List Link
back_links [] terms = []
back_links (mark ∷ marks) terms =
    back_links marks (others_of terms) ++ record { mark = turned_mark (mark_of mark); term = first_of terms } ∷ []
