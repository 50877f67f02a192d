-- Why a source is refused.

-- the cause alone, without the offset
pub data Cause : Type 0 where
  bad_byte : Cause
  bad_name : Cause
  unclosed : Cause
  extra : Cause
  no_text : Cause
  deep : Cause
