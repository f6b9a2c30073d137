-- Why the image of a path was not opened.
use Rattle.std.specs.Prelude.{◌≡◌, ℕ, List}
use Rattle.dtm_command.specs.Images.{Store, IsWrongSize}
use Rattle.dtm_command.specs.declared.images.Refusal.{Refusal}
use Rattle.dtm_command.specs.declared.images.Refusal.TheVariants as refusal
use Rattle.dtm_command.specs.declared.images.OpenErr.{OpenErr}
use Rattle.dtm_command.specs.declared.images.OpenErr.TheVariants as open_err

-- what is told of a path that has no image: a call for it failed, or its file has a wrong size, which is told
abbrev pub IsRefused : {File Image : Type 0} → Store File Image → List ℕ → Refusal → Type 0
IsRefused store path (refusal.Call why) = store.failed path
IsRefused store path (refusal.Size bytes) = IsWrongSize store path bytes

-- why the image of a path was not opened: it cannot be, or memory is missing, for which there is no cause to tell
abbrev pub WhyUnopened : {File Image : Type 0} → Store File Image → List ℕ → OpenErr → Type 0
WhyUnopened store path (open_err.Image named why) = (named.now ≡ path) × IsRefused store path why
WhyUnopened store path open_err.Memory = Unit {0}
