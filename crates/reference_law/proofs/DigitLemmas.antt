-- Small numbers and the first moment as they are shown.
use Rattle.std.proofs.Common.{◌≡◌, ◌++◌, codes, decimal, ap, lit≤, lit<, ◌∙◌}
use Rattle.std.proofs.lemmas.Fmt.{decimal_step, decimal_digit}
use Rattle.vms_model.specs.Times.{time_text, day_after}

pub digit_1 : decimal 1 ≡ codes "1"
digit_1 = decimal_digit 1 (lit< tt)

pub digit_2 : decimal 2 ≡ codes "2"
digit_2 = decimal_digit 2 (lit< tt)

pub digit_3 : decimal 3 ≡ codes "3"
digit_3 = decimal_digit 3 (lit< tt)

pub digit_4 : decimal 4 ≡ codes "4"
digit_4 = decimal_digit 4 (lit< tt)

pub digit_5 : decimal 5 ≡ codes "5"
digit_5 = decimal_digit 5 (lit< tt)

pub digit_6 : decimal 6 ≡ codes "6"
digit_6 = decimal_digit 6 (lit< tt)

pub digit_7 : decimal 7 ≡ codes "7"
digit_7 = decimal_digit 7 (lit< tt)

pub digit_8 : decimal 8 ≡ codes "8"
digit_8 = decimal_digit 8 (lit< tt)

pub digit_9 : decimal 9 ≡ codes "9"
digit_9 = decimal_digit 9 (lit< tt)

pub digit_0 : decimal 0 ≡ codes "0"
digit_0 = decimal_digit 0 (lit< tt)

pub ten : decimal 10 ≡ codes "10"
ten = decimal_step 10 (lit≤ tt) (lit< tt) ∙ ap (λ d. d ++ codes "0") digit_1

pub eleven : decimal 11 ≡ codes "11"
eleven = decimal_step 11 (lit≤ tt) (lit< tt) ∙ ap (λ d. d ++ codes "1") digit_1

pub twelve : decimal 12 ≡ codes "12"
twelve = decimal_step 12 (lit≤ tt) (lit< tt) ∙ ap (λ d. d ++ codes "2") digit_1

pub thirteen : decimal 13 ≡ codes "13"
thirteen = decimal_step 13 (lit≤ tt) (lit< tt) ∙ ap (λ d. d ++ codes "3") digit_1

pub fifteen : decimal 15 ≡ codes "15"
fifteen = decimal_step 15 (lit≤ tt) (lit< tt) ∙ ap (λ d. d ++ codes "5") digit_1

pub sixteen : decimal 16 ≡ codes "16"
sixteen = decimal_step 16 (lit≤ tt) (lit< tt) ∙ ap (λ d. d ++ codes "6") digit_1

pub seventeen : decimal 17 ≡ codes "17"
seventeen = decimal_step 17 (lit≤ tt) (lit< tt) ∙ ap (λ d. d ++ codes "7") digit_1

pub first_moment : time_text 1 ≡ codes "17-NOV-1858 00:00:00.01"
unfolding time_text day_after
first_moment = ap (λ d. (d ++ codes "-NOV-1858") ++ codes " 00:00:00.01") seventeen

pub eighteen : decimal 18 ≡ codes "18"
eighteen = decimal_step 18 (lit≤ tt) (lit< tt) ∙ ap (λ d. d ++ codes "8") digit_1

pub second_moment : time_text 2 ≡ codes "17-NOV-1858 00:00:00.02"
unfolding time_text day_after
second_moment = ap (λ d. (d ++ codes "-NOV-1858") ++ codes " 00:00:00.02") seventeen

pub fourteen : decimal 14 ≡ codes "14"
fourteen = decimal_step 14 (lit≤ tt) (lit< tt) ∙ ap (λ d. d ++ codes "4") digit_1

fifty_one : decimal 51 ≡ codes "51"
fifty_one = decimal_step 51 (lit≤ tt) (lit< tt) ∙ ap (λ d. d ++ codes "1") digit_5

pub block_518 : decimal 518 ≡ codes "518"
block_518 = decimal_step 518 (lit≤ tt) (lit< tt) ∙ ap (λ d. d ++ codes "8") fifty_one
