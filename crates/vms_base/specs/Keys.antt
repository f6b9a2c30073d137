-- The keys that the code's values are.
use Rattle.vms_model.specs.Keys as model
use Rattle.vms_base.specs.declared.keys.Key.{Key}
use Rattle.vms_base.specs.declared.keys.Key.TheVariants as key

abbrev pub key_of : Key → model.Key
key_of (key.Number n) = model.Number n
key_of (key.Text bytes) = model.Text bytes
key_of key.End = model.End
