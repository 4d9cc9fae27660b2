pub mod CardDrawing
pub mod PanelDrawing
