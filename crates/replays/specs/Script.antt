-- The requests of a text, as a script and as an update (own).
use Rattle.std.specs.Prelude.{◌≡◌, ℕ, List, [], ◌∷◌, ◌++◌, map, All, Some}
use Rattle.std.specs.List.{flat_map}
use Rattle.requests.specs.Request.{Request}
use Rattle.binders.specs.Events.{apply}
use Rattle.commands.specs.Line.{meaning}
use Rattle.scripts.specs.Asked.{request_meaning}
use Rattle.scripts.specs.Line.{IsLine, ended}
use Rattle.updates.specs.Lines.{commit_line}

-- A text is whole lines. They request `requests` in the order of this list, one request in each
-- line, and nothing else.
pub record IsScript (text : List ℕ) (requests : List Request) : Type 0 where
  pub lines : List (List ℕ)
  pub each : All IsLine lines
  pub whole : text ≡ flat_map ended lines
  pub asked : map meaning lines ≡ map (λ request. Some (apply request)) requests
  -- for any division of the text into lines and a rest after the last newline, these are its lines,
  -- and there is no rest
  pub only : (others : List (List ℕ)) (cut : List ℕ) → All IsLine others → IsLine cut
      → text ≡ flat_map ended others ++ cut → (others ≡ lines) × (cut ≡ [])

-- A text is whole lines that request `requests` of an update, one request in each line, and then
-- the line `commit`, which makes no request.
pub record IsUpdateText (text : List ℕ) (requests : List Request) : Type 0 where
  pub lines : List (List ℕ)
  pub each : All IsLine lines
  pub whole : text ≡ flat_map ended lines ++ ended commit_line
  pub asked : map request_meaning lines ≡ map (λ request. Some request) requests
  -- for any division of the text into lines and a rest after the last newline, these are its lines
  -- and then `commit`, and there is no rest
  pub only : (others : List (List ℕ)) (cut : List ℕ) → All IsLine others → IsLine cut
      → text ≡ flat_map ended others ++ cut → (others ≡ lines ++ commit_line ∷ []) × (cut ≡ [])
