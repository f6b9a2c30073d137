use Rattle.script_lang.proofs.WhereLemmas.{line_tells_where}
use Rattle.script_lang.proofs.laws.columns_tell_where_no_statement_goes_on.Goals as goal

pub returns : goal.returns
returns c = line_tells_where
