-- Each row is refused where its test holds and none before it does.
use Rattle.refusals.specs.Refusals.{rows_before, row_holds}
use Rattle.refusals.proofs.Rows.{passing, refuse, accept}
use Rattle.container.specs.Checks.{header_checks}
use Rattle.container.proofs.header.check_header.Goals as goal

pub returns-then-too_long : goal.returns-then-too_long
unfolding header_checks rows_before row_holds
returns-then-too_long c = refuse 1 _ (search passing depth 20 fits 4000) (search passing)

pub returns-then-too_short : goal.returns-then-too_short
unfolding header_checks rows_before row_holds
returns-then-too_short c = refuse 2 _ (search passing depth 20 fits 4000) (search passing)

pub returns-then-other_magic : goal.returns-then-other_magic
unfolding header_checks rows_before row_holds
returns-then-other_magic c = refuse 3 _ (search passing depth 20 fits 4000) (search passing)

pub returns-then-other_major : goal.returns-then-other_major
unfolding header_checks rows_before row_holds
returns-then-other_major c = refuse 4 _ (search passing depth 20 fits 4000) (search passing)

pub returns-then-no_directory : goal.returns-then-no_directory
unfolding header_checks rows_before row_holds
returns-then-no_directory c = refuse 5 _ (search passing depth 20 fits 4000) (search passing)

pub returns : goal.returns
unfolding header_checks rows_before row_holds
returns c = accept _ (search passing depth 20 fits 4000)
