use Rattle.ipdl_roundtrip.proofs.laws.shown_document_is_read_back.Goals as goal

pub returns-clause-alone : goal.returns-clause-alone
returns-clause-alone c = λ d may t spelled e other.
    c.one_document.ensures e d t other (c.shown_document_is_read.ensures.spelled d may t spelled)

pub returns-clause-clean : goal.returns-clause-clean
returns-clause-clean c = λ d may t spelled.
    c.document_is_read.ensures.clean d t (c.shown_document_is_read.ensures.spelled d may t spelled) may.limits
