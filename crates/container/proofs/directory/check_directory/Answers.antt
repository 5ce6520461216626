-- Each row is refused where its test holds and none before it does.
use Rattle.refusals.specs.Refusals.{rows_before, row_holds}
use Rattle.refusals.proofs.Rows.{refuse, accept}
use Rattle.container.specs.Checks.{directory_checks}
use Rattle.container.proofs.Surveys.{surveying}
use Rattle.container.proofs.directory.check_directory.Goals as goal

pub returns-then-s : goal.returns-then-s
unfolding directory_checks rows_before row_holds
returns-then-s c = refuse 6 _ (search surveying depth 20 fits 4000) (search surveying depth 10)

pub returns-then-s-2 : goal.returns-then-s-2
unfolding directory_checks rows_before row_holds
returns-then-s-2 c = refuse 7 _ (search surveying depth 20 fits 4000) (search surveying depth 10)

pub returns-then-s-3 : goal.returns-then-s-3
unfolding directory_checks rows_before row_holds
returns-then-s-3 c = refuse 8 _ (search surveying depth 20 fits 4000) (search surveying depth 10)

pub returns-then-repeated_in : goal.returns-then-repeated_in
unfolding directory_checks rows_before row_holds
returns-then-repeated_in c = refuse 9 _ (search surveying depth 20 fits 4000) (search surveying depth 10)

pub returns-then-missing_in : goal.returns-then-missing_in
unfolding directory_checks rows_before row_holds
returns-then-missing_in c = refuse 10 _ (search surveying depth 20 fits 4000) (search surveying depth 10)

pub returns-then-altered_in : goal.returns-then-altered_in
unfolding directory_checks rows_before row_holds
returns-then-altered_in c = refuse 11 _ (search surveying depth 20 fits 4000) (search surveying depth 10)

pub returns : goal.returns
unfolding directory_checks rows_before row_holds
returns c = accept _ (search surveying depth 20 fits 4000)
