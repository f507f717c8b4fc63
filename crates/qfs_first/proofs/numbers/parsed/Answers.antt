use Rattle.std.proofs.Common.{◌∙◌, sym, ap}
use Rattle.std.specs.Result.{result_ok}
use Rattle.std.proofs.lemmas.Fmt.{parse-decimal}
use Rattle.qfs_first.proofs.NumberTexts.{no_text, same_text}
use Rattle.qfs_first.proofs.numbers.parsed.Goals as goal

pub returns-in_err-digits : goal.returns-in_err-digits
returns-in_err-digits c =
    λ number small is. absurd (no_text _ _ _ c.from_utf8.ensures.cases (sym c.ok.ensures.value ∙ c.in_err-digits.was) number small is)

pub returns : goal.returns
returns c =
    let same = same_text _ _ _ c.in_ok-digits.digits c.from_utf8.ensures.cases (sym c.ok.ensures.value ∙ c.in_ok-digits.was) in
    λ number small is. c.ok-2.ensures.value ∙ ap result_ok (parse-decimal 64 number _ _ small small (same ∙ sym is) c.parse.ensures.value.0)
