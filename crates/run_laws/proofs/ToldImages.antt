-- The images with which a run begins, as its lines tell them, node by node.
use Rattle.std.proofs.Common.{◌≡◌, List, [], ◌∷◌, Bool, true, false, Option, Some, None, if◌then◌else◌, refl, sym, ◌∙◌, ap}
use Rattle.std.specs.Prelude.{is_some}
use Rattle.std.specs.Str.{bytes_eq}
use Rattle.std.proofs.lemmas.Bool.{both_ways}
use Rattle.commit_protocol.specs.Messages.{Name, same_name}
use Rattle.commit_protocol.specs.Opening.{Image, image_in, in_rack, opened as initial}
use Rattle.commit_protocol.proofs.Gathered.{is_shown}
use Rattle.commit_protocol.proofs.Lists.{same_name-eq, same_name-ne}
use Rattle.commit_protocol.proofs.Opened.{good_opened}
use Rattle.commit_protocol.proofs.Running.{goes_run}
use Rattle.run_said.specs.run_model.World.{Node, World, find_node}
use Rattle.run_said.specs.run_model.Transcript.{Entry}
use Rattle.run_said.proofs.run_model.NodeLists.{some_is}
use Rattle.run_agreement.specs.Following.{opening_of}
use Rattle.run_agreement.specs.Laws.{IsReachedBy, IsRun, NamesApart, image_told, images_told, opening_told, volume_image, with_image}
use Rattle.run_agreement.specs.Seen.{Face, IsFace, Resolution, has_volume}
use Rattle.run_agreement.proofs.Found.{bytes_itself, bytes_same}
use Rattle.run_agreement.proofs.Openings.{reached_by}

beside : (name other : Name) (o : Option Image) (is : List (Name × Image)) → same_name other name ≡ false → image_in name (with_image other o is) ≡ image_in name is
beside name other None is e = refl
beside name other (Some i) is e = ap (λ b. if b then Some i else image_in name is) e

here : (name other : Name) (o : Option Image) (is : List (Name × Image)) → same_name other name ≡ true → image_in name is ≡ None → image_in name (with_image other o is) ≡ o
here name other None is e none = none
here name other (Some i) is e none = ap (λ b. if b then Some i else image_in name is) e

apart_name : (name : Name) (n : Node) → bytes_eq name n.name ≡ false → same_name n.name name ≡ false
apart_name name n e = same_name-ne n.name name (λ q. both_ways (bytes_eq name n.name) e (bytes_itself name n.name (sym q)))

pub told_nowhere : (name : Name) (ns : List Node) (es : List Entry) → find_node name ns ≡ None → image_in name (images_told ns es) ≡ None
told_nowhere name [] es e = refl
told_nowhere name (n ∷ ns) es e = go (bytes_eq name n.name) refl e (told_nowhere name ns es)
  where
    go : (b : Bool) → bytes_eq name n.name ≡ b → ◌≡◌ {A = Option Node} (if b then Some n else find_node name ns) None → (find_node name ns ≡ None → image_in name (images_told ns es) ≡ None) → image_in name (images_told (n ∷ ns) es) ≡ None
    go true q k more = let no : ⊥ = cc in absurd no
    go false q k more = beside name n.name (image_told n.name (volume_image n) es) (images_told ns es) (apart_name name n q) ∙ more k

pub told_found : (name : Name) (ns : List Node) (es : List Entry) (n : Node) → NamesApart ns → find_node name ns ≡ Some n → image_in name (images_told ns es) ≡ image_told name (volume_image n) es
told_found name [] es n apart e = let no : ⊥ = cc in absurd no
told_found name (m ∷ ms) es n apart e = go (bytes_eq name m.name) refl e (told_found name ms es n apart.1)
  where
    go : (b : Bool) → bytes_eq name m.name ≡ b → ◌≡◌ {A = Option Node} (if b then Some m else find_node name ms) (Some n) → (find_node name ms ≡ Some n → image_in name (images_told ms es) ≡ image_told name (volume_image n) es) → image_in name (images_told (m ∷ ms) es) ≡ image_told name (volume_image n) es
    go true q k more =
        let same : name ≡ m.name = bytes_same name m.name q in
        here name m.name (image_told m.name (volume_image m) es) (images_told ms es) (same_name-eq m.name name (sym same)) (told_nowhere name ms es (ap (λ x. find_node x ms) same ∙ apart.0)) ∙ (λ i. image_told (sym same i) (volume_image (some_is m n k i)) es)
    go false q k more = beside name m.name (image_told m.name (volume_image m) es) (images_told ms es) (apart_name name m q) ∙ more k

-- where none is told of a node, it is not in the rack of the opening
pub told_out : (name : Name) (ns : List Node) (es : List Entry) (n : Node) → NamesApart ns → find_node name ns ≡ Some n → image_told name (volume_image n) es ≡ None → in_rack (opening_told ns es) name ≡ false
told_out name ns es n apart found none = ap is_some (told_found name ns es n apart found ∙ none)

-- a node with a volume had one in the base
module _ (base v : World) (es : List Entry) (is_run : IsRun base es v) (r : Resolution) (name : Name) (x : Node) (found : find_node name v.nodes ≡ Some x) (has : has_volume x ≡ true) where
  abbrev pub reached : IsReachedBy base r v
  reached = reached_by base v es is_run r

  pub face : (f : Face) × (reached.shows.faces name ≡ Some f) × IsFace (r name) x f
  face = reached.shows.are.there name x found has

  pub in_base : is_some (image_in name (opening_of base).images) ≡ true
  in_base = sym (ap (λ (g : Name → Bool). g name) (goes_run reached.steps (initial (opening_of base)) (good_opened (opening_of base) is_run.agrees (is_shown (opening_of base) is_run.agrees))).rack) ∙ reached.shows.follows.rack name ∙ ap is_some face.1
